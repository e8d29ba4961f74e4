-- 01, "Answers": the rows of the opening, each with its test in 01's words; they share nothing with the card's own definitions, and the numbers stand here anew.
use Rattle.std.specs.Prelude.{ℕ, ◌*◌, Bool, false, ◌&&◌, ◌||◌, List, [], ◌∷◌, eqb, leb, ltb, length}
use Rattle.ground.specs.Choice.{within}
use Rattle.answers.specs.declared.Refusal.TheVariants.{GeometryOrMode, StoreLength, MarksLength, TupleBufferLength, MarkAboveTwo}
use Rattle.ground.specs.Rows.{Row, When, Unless}
use Rattle.answers.specs.declared.Refusal.{Refusal}
use Rattle.geometry.specs.declared.Geometry.{Geometry}

-- 1: "geometry or mode outside the limits": "C 1..65,535, H 1..16, S 1..255, N = C·H·S at most 65,535"; "Mode: 0 PC Card, 1 True IDE"
abbrev pub sector_total : Geometry → ℕ
sector_total g = g.cylinders * g.heads * g.sectors

abbrev pub in_limits : Geometry → ℕ → Bool
in_limits g mode =
    within 1 65535 g.cylinders
    && within 1 16 g.heads
    && within 1 255 g.sectors
    && leb (sector_total g) 65535
    && (eqb mode 0 || eqb mode 1)

-- 4: "a mark above 2"
abbrev pub any_above2 : List ℕ → Bool
any_above2 [] = false
any_above2 (mark ∷ marks) = ltb 2 mark || any_above2 marks

-- the opening: "Store length is 512·N, marks length N", "a 256-byte tuple buffer"
abbrev pub opening_rows : Geometry → ℕ → List ℕ → List ℕ → List ℕ → List (Row Refusal)
opening_rows g mode store marks tuples =
    Unless (in_limits g mode) GeometryOrMode
    ∷ Unless (eqb (length store) (512 * sector_total g)) StoreLength
    ∷ Unless (eqb (length marks) (sector_total g)) MarksLength
    ∷ Unless (eqb (length tuples) 256) TupleBufferLength
    ∷ When (any_above2 marks) MarkAboveTwo
    ∷ []
