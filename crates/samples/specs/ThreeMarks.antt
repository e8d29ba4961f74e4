-- 02, "Eight", by an example: a card over marks of which three are not 0, and what its Identify then tells.
use Rattle.std.specs.Prelude.{ℕ, ◌+◌, ◌*◌, List, [], ◌∷◌, ◌++◌, set, get_or, replicate}
use Rattle.registers.specs.Machine.{Machine}
use Rattle.card.specs.Access.{Asked}
use Rattle.card.specs.Step.{play}
use Rattle.card.specs.Opening.{opened}
use Rattle.card.specs.Doors.{machine_of}
use Rattle.samples.specs.Lines.{Line, geometry, store, marks, tuples, writes}
use Rattle.samples.specs.Parts.{put, lba}

-- sectors 3 and 9 are unreadable, 7 can't be written
unfoldable pub three_marks : List ℕ
three_marks = set (set (set marks 3 1) 7 2) 9 1

unfoldable pub three_bad : Machine
three_bad = machine_of (opened geometry 1 store three_marks tuples).card store three_marks

unfoldable pub asks_of : List Line → List Asked
asks_of [] = []
asks_of (l ∷ more) = l.access ∷ asks_of more

-- the card after some accesses; and its buffer after these and ECH, word by word
abbrev pub word_at : ℕ → List ℕ → ℕ
word_at n buffer = get_or buffer (2 * n) 0 + 256 * get_or buffer (2 * n + 1) 0

unfoldable pub left_after : List Line → Machine
left_after lines = (play three_bad (asks_of lines)).last

unfoldable pub identified_after : List Line → List ℕ
identified_after lines = (left_after (lines ++ (put 7 0xEC ∷ []))).buffer

-- sector i is written, by words; sectors from LBA i on are erased
abbrev pub written : ℕ → List Line
written i = lba 1 i ++ (put 7 0x30 ∷ replicate 256 (writes 3 2 0 0x1234))

abbrev pub erased : ℕ → ℕ → List Line
erased count i = lba count i ++ (put 7 0xC0 ∷ [])
