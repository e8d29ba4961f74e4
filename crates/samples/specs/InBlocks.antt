-- 02, "One", by examples: source document 000's own, a block of 4, a Count of 8, and the third sector fails; and whole good commands by blocks of 2.
use Rattle.std.specs.Prelude.{ℕ, List, [], ◌∷◌, ◌++◌, set, replicate}
use Rattle.registers.specs.Machine.{Machine}
use Rattle.card.specs.Step.{play}
use Rattle.card.specs.Opening.{opened}
use Rattle.card.specs.Doors.{machine_of}
use Rattle.samples.specs.Lines.{Line, geometry, store, marks, tuples, writes, leaves_up, leaves_down}
use Rattle.samples.specs.Parts.{get, put, word, sector, lba}
use Rattle.samples.specs.ThreeMarks.{asks_of}

-- the third from LBA 10 is LBA 12, with this mark
unfoldable pub third_marked : ℕ → Machine
third_marked mark = machine_of (opened geometry 1 store (set marks 12 mark) tuples).card store (set marks 12 mark)

-- Set Multiple, the registers, the command, and its data
abbrev pub by_fours : ℕ → List Line → List Line
by_fours command words = put 2 4 ∷ put 7 0xC6 ∷ (lba 8 10 ++ (put 7 command ∷ words))

-- Read Multiple of an unreadable sector: two sectors are read, and Status, which clears the interrupt mark, before the last word; Write Multiple of one that can't be written: the data of three is written
unfoldable pub third_unreadable : Machine
third_unreadable = (play (third_marked 1) (asks_of (by_fours 0xC4 (replicate 511 (word 0) ++ (get 7 0x58 ∷ word 0 ∷ []))))).last

unfoldable pub third_unwritable : Machine
third_unwritable = (play (third_marked 2) (asks_of (by_fours 0xC5 (replicate 768 (writes 3 2 0 0x1234))))).last

-- A whole good command: a block of 2 and three sectors from LBA 10, Status read when the line is up. The line says where the mark is set: with the first
-- sector of each block ready to be read; with the first one of the second block asked for, and at the good end of a write.
unfoldable pub last_of : (Line → Line) → List Line → List Line
last_of f [] = []
last_of f (l ∷ []) = f l ∷ []
last_of f (l ∷ more ∷ rest) = l ∷ last_of f (more ∷ rest)

unfoldable pub read_by_twos : List Line
read_by_twos =
    put 2 2 ∷ put 7 0xC6 ∷ get 7 0x50
    ∷ (lba 3 10
    ++ (leaves_up (put 7 0xC4) ∷ leaves_down (get 7 0x58)
    ∷ (last_of leaves_down (sector 10) ++ (last_of leaves_up (sector 11) ++ (leaves_down (get 7 0x58) ∷ (last_of leaves_down (sector 12) ++ (leaves_down (get 7 0x50) ∷ [])))))))

unfoldable pub written_by_twos : List Line
written_by_twos =
    let words = replicate 256 (writes 3 2 0 0x1234) in
    put 2 2 ∷ put 7 0xC6 ∷ get 7 0x50
    ∷ (lba 3 10
    ++ (leaves_down (put 7 0xC5)
    ∷ (last_of leaves_down words ++ (last_of leaves_up words ++ (leaves_down (get 7 0x58) ∷ (last_of leaves_up words ++ (leaves_down (get 7 0x50) ∷ [])))))))

-- 20H on the same card: the block is not its own, and the mark is set with each sector
unfoldable pub read_singly : List Line
read_singly =
    put 2 2 ∷ put 7 0xC6 ∷ get 7 0x50
    ∷ (lba 3 10
    ++ (leaves_up (put 7 0x20) ∷ leaves_down (get 7 0x58)
    ∷ (last_of leaves_up (sector 10) ++ (leaves_down (get 7 0x58) ∷ (last_of leaves_up (sector 11) ++ (leaves_down (get 7 0x58) ∷ (last_of leaves_down (sector 12) ++ (leaves_down (get 7 0x50) ∷ []))))))))
