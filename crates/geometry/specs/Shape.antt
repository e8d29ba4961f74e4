-- 01, "Commands", 91H: "S := Count, H := low nibble+1; if S is 0 or H·S>N: ABRT, 21H, old geometry stays".
use Rattle.std.specs.Prelude.{ℕ, ◌+◌, ◌*◌, ◌%◌, [], ◌∷◌, ltb, eqb, Some, None, Option}
use Rattle.ground.specs.Rows.{When, first_or}
use Rattle.geometry.specs.declared.Geometry.{Geometry}
use Rattle.geometry.specs.Limits.{cylinders_for}

-- the geometry of N sectors by H and S: "current C = N div (H·S)".
abbrev pub geometry_by : ℕ → ℕ → ℕ → Geometry
geometry_by heads sectors total = record { cylinders = cylinders_for heads sectors total; heads = heads; sectors = sectors }

-- the new geometry, or none where 91H is refused
abbrev pub Reshaped : Type 0
Reshaped = Option Geometry

unfoldable pub reshaped : ℕ → ℕ → ℕ → Reshaped
reshaped count head total =
    first_or
    (When (eqb count 0) None
    ∷ When (ltb total ((head % 16 + 1) * count)) None
    ∷ [])
    (Some (geometry_by (head % 16 + 1) count total))

-- the geometry after 91H: "old geometry stays" where it is refused.
abbrev pub current_after : Reshaped → Geometry → Geometry
current_after (Some g) old = g
current_after None old = old
