-- 02, "Fourteen": Identify's integrity word, for any bytes before it.
use Rattle.std.specs.Prelude.{ℕ, ◌+◌, ◌-◌, ◌%◌, List, [], ◌∷◌, ◌++◌}

-- "Word 255": the place of its low byte
abbrev pub integrity_at : ℕ
integrity_at = 510

-- "summed"; with wrap-around in eight bits a sum is this modulo 256
unfoldable pub sum_of : List ℕ → ℕ
sum_of [] = 0
sum_of (b ∷ l) = b + sum_of l

-- "low byte A5H"
abbrev pub integrity_low : ℕ
integrity_low = 0xA5

-- "the high byte such that all 512 bytes, summed with wrap-around in eight bits, give 0": what the bytes before it lack
unfoldable pub integrity_high : List ℕ → ℕ
integrity_high l = (256 - sum_of l % 256) % 256

-- bytes, and one more, with which all give 0
unfoldable pub giving_zero : List ℕ → List ℕ
giving_zero l = l ++ (integrity_high l ∷ [])

-- bytes, and the integrity word after them, low byte first
unfoldable pub with_integrity : List ℕ → List ℕ
with_integrity l = giving_zero (l ++ (integrity_low ∷ []))
