-- The limits taken apart.
use Prim.Native.Nat.{ℕ, ◌*◌, ◌≤◌}
use mathlib.Core.Bool.{true}
use mathlib.Core.Path.{◌≡◌, refl}
use native.Mathlib.Nat.{mul_assoc, div-le_self, div-mul-le_self}
use native.Mathlib.Omega.{arith}
use borrow.Author.Tests.{leb-true, eqb-true}
use Rattle.geometry.specs.declared.Geometry.{Geometry}
use Rattle.geometry.specs.Limits.{capacity_of, fits, shape_tests, limits, total_of, current_for, current_tests, cylinders_for}
use Rattle.ground.proofs.Every.{each}
use Rattle.geometry.proofs.Bounds.{product_positive}

-- what a geometry within the limits is.
abbrev pub Fits : Geometry → Type 0
Fits g =
    (1 ≤ g.cylinders)
    × (g.cylinders ≤ 65535)
    × (1 ≤ g.heads)
    × (g.heads ≤ 16)
    × (1 ≤ g.sectors)
    × (g.sectors ≤ 255)
    × (capacity_of g ≤ 65535)

pub fits_facts : (g : Geometry) → fits g ≡ true → Fits g
unfolding fits
fits_facts g e =
    let t = each (limits g) e in
    let h = each (shape_tests g) (t 2) in
    (leb-true _ _ (t 0), leb-true _ _ (t 1), leb-true _ _ (h 0), leb-true _ _ (h 1), leb-true _ _ (h 2), leb-true _ _ (h 3), leb-true _ _ (t 3))

-- what a current geometry of a card of n sectors is.
abbrev pub Current : Geometry → ℕ → Type 0
Current g n =
    (1 ≤ g.heads)
    × (g.heads ≤ 16)
    × (1 ≤ g.sectors)
    × (g.sectors ≤ 255)
    × (1 ≤ g.cylinders)
    × (g.cylinders ≡ cylinders_for g.heads g.sectors n)

pub current_facts : (g : Geometry) (n : ℕ) → current_for g n ≡ true → Current g n
unfolding current_for
current_facts g n e =
    let t = each (current_tests g n) e in
    let h = each (shape_tests g) (t 0) in
    (leb-true _ _ (h 0), leb-true _ _ (h 1), leb-true _ _ (h 2), leb-true _ _ (h 3), leb-true _ _ (t 1), eqb-true _ _ (t 2))

-- a geometry within the limits has 1..65,535 sectors: C·H·S of them.
pub total-fits : (g : Geometry) → fits g ≡ true → (total_of g ≡ capacity_of g) × (1 ≤ total_of g) × (total_of g ≤ 65535)
unfolding total_of
total-fits g e =
    let f = fits_facts g e in
    let p = product_positive (g.cylinders * g.heads) g.sectors (product_positive g.cylinders g.heads f.0 f.2) f.4 in
    rw e (refl, p, f.6)

-- the current capacity is at most N.
pub current_room : (g : Geometry) (n : ℕ) → current_for g n ≡ true → capacity_of g ≤ n
current_room g n e =
    rw ((current_facts g n e).5, mul_assoc) (div-mul-le_self n (g.heads * g.sectors))

-- a geometry that the registers can name, as the current one is.
abbrev pub Small : Geometry → Type 0
Small g = (g.cylinders ≤ 65535) × (g.heads ≤ 16) × (g.sectors ≤ 255)

pub current_small : (g : Geometry) (n : ℕ) → current_for g n ≡ true → n ≤ 65535 → Small g
current_small g n e l =
    let k = current_facts g n e in
    let y = div-le_self n (g.heads * g.sectors) in
    let z = k.5 in
    (omega arith, k.1, k.3)
