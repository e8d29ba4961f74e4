-- 01, "What is lent": the limits of a geometry, its number of sectors, and what a current geometry must be.
use Rattle.std.specs.Prelude.{ℕ, ◌*◌, ◌/◌, Bool, List, [], ◌∷◌, leb, eqb}
use Rattle.ground.specs.Choice.{pick, every}
use Rattle.geometry.specs.declared.Geometry.{Geometry}

-- C·H·S
abbrev pub capacity_of : Geometry → ℕ
capacity_of g = g.cylinders * g.heads * g.sectors

-- "H 1..16, S 1..255", of a card's geometry and of its current one
abbrev pub shape_tests : Geometry → List Bool
shape_tests g =
    leb 1 g.heads
    ∷ leb g.heads 16
    ∷ leb 1 g.sectors
    ∷ leb g.sectors 255
    ∷ []

abbrev pub shape_fits : Geometry → Bool
shape_fits g = every (shape_tests g)

-- "Geometry: C 1..65,535, H 1..16, S 1..255, N = C·H·S at most 65,535."
abbrev pub limits : Geometry → List Bool
limits g =
    leb 1 g.cylinders
    ∷ leb g.cylinders 65535
    ∷ shape_fits g
    ∷ leb (capacity_of g) 65535
    ∷ []

unfoldable pub fits : Geometry → Bool
fits g = every (limits g)

-- N of a geometry within the limits.
unfoldable pub total_of : Geometry → ℕ
total_of g = pick (fits g) (capacity_of g) 0

-- N div (H·S)
abbrev pub cylinders_for : ℕ → ℕ → ℕ → ℕ
cylinders_for heads sectors total = total / (heads * sectors)

-- "the current H is 1..16 and S 1..255 with current C = N div (H·S), at least 1"; a test is made only where those before it hold, so no division is by 0.
abbrev pub current_tests : Geometry → ℕ → List Bool
current_tests g n =
    shape_fits g
    ∷ leb 1 g.cylinders
    ∷ eqb g.cylinders (cylinders_for g.heads g.sectors n)
    ∷ []

unfoldable pub current_for : Geometry → ℕ → Bool
current_for g n = every (current_tests g n)
