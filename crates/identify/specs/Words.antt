-- 01, "Commands", the last paragraph: Identify's 256 words, low byte first; the last of them is 02's integrity word.
use Rattle.std.specs.Prelude.{ℕ, ◌/◌, ◌%◌, List, [], ◌∷◌, take, ◌==◌}
use Rattle.ground.specs.Choice.{pick}
use Rattle.ground.specs.Lists.{listed}
use Rattle.ground.specs.Tables.{Numbered, At, Through, lookup}
use Rattle.geometry.specs.Limits.{total_of, capacity_of}
use Rattle.identify.specs.declared.Facts.{Facts}
use Rattle.identify.specs.Integrity.{integrity_at, with_integrity}

abbrev pub low_half : ℕ → ℕ
low_half n = n % 65536

abbrev pub high_half : ℕ → ℕ
high_half n = n / 65536 % 65536

-- "word 0 848AH; 1, 3, 6 default C, H, S; 7 high and 8 low half of N; 10..19, 23..26, 27..46 are 2020H; 49 is 0200H; 53 is 1; 54..56 current C, H, S;
-- 57 low and 58 high half of current C·H·S; 60 low, 61 high of N"; 02, "Eight": the number of marks that are not 0 "is shown in Identify word 129"; "One":
-- "Identify word 47 becomes 0010H", the largest block
abbrev pub word_table : Facts → List (Numbered ℕ)
word_table f =
    At 0 0x848A
    ∷ At 1 f.default.cylinders
    ∷ At 3 f.default.heads
    ∷ At 6 f.default.sectors
    ∷ At 7 (high_half (total_of f.default))
    ∷ At 8 (low_half (total_of f.default))
    ∷ Through 10 19 0x2020
    ∷ Through 23 26 0x2020
    ∷ Through 27 46 0x2020
    ∷ At 47 0x0010
    ∷ At 49 0x0200
    ∷ At 53 1
    ∷ At 54 f.current.cylinders
    ∷ At 55 f.current.heads
    ∷ At 56 f.current.sectors
    ∷ At 57 (low_half (capacity_of f.current))
    ∷ At 58 (high_half (capacity_of f.current))
    ∷ At 60 (low_half (total_of f.default))
    ∷ At 61 (high_half (total_of f.default))
    ∷ At 129 f.bad
    ∷ []

-- the table to word 61, as the code looks it up; it puts word 129 in by itself
abbrev pub to_word61 : Facts → List (Numbered ℕ)
to_word61 f = take 19 (word_table f)

-- words 0 to 254: "the rest 0"
unfoldable pub identify_word : Facts → ℕ → ℕ
identify_word f n = lookup (word_table f) n 0

-- byte i: "A sector moves as 256 words, low byte first."
abbrev pub byte_of : ℕ → ℕ → ℕ
byte_of i word = pick (i % 2 == 0) (word % 256) (word / 256)

unfoldable pub identify_byte : Facts → ℕ → ℕ
identify_byte f i = byte_of i (identify_word f (i / 2))

-- the bytes of words 0 to 254, and all 512
unfoldable pub told_bytes : Facts → List ℕ
told_bytes f = listed (identify_byte f) 0 integrity_at

unfoldable pub identify_bytes : Facts → List ℕ
identify_bytes f = with_integrity (told_bytes f)
