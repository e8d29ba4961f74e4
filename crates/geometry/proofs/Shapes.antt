-- Which geometries are good current geometries: that of a new card, and what 91H takes.
use Rattle.std.proofs.Common.{Some, None}
use Prim.Native.Nat.{ℕ, ◌+◌, ◌*◌, ◌/◌, ◌%◌, ◌≤◌, ◌<◌}
use mathlib.Core.Bool.{Bool, true, false}
use mathlib.Core.Path.{◌≡◌, refl, sym, ap}
use native.Mathlib.Nat.{mul_assoc, mul-div_cancel, le-div_iff_mul-le}
use native.Mathlib.Omega.{arith}
use lib.Dec.{ltb, eqb}
use borrow.Author.Tests.{le-leb, eq-eqb, ltb-false, eqb-false}
use Rattle.ground.specs.Choice.{pick, every}
use Rattle.geometry.specs.declared.Geometry.{Geometry}
use Rattle.geometry.specs.Limits.{fits, total_of, current_for, cylinders_for}
use Rattle.geometry.specs.Shape.{geometry_by, reshaped, current_after, Reshaped}
use Rattle.geometry.specs.Codes.{reshaped_code}
use Rattle.geometry.proofs.Bounds.{product_positive}
use Rattle.geometry.proofs.LimitFacts.{Current, fits_facts, total-fits}

current_of : (g : Geometry) (n : ℕ) → Current g n → current_for g n ≡ true
unfolding current_for every
current_of g n f = rw (le-leb _ _ f.0, le-leb _ _ f.1, le-leb _ _ f.2, le-leb _ _ f.3, le-leb _ _ f.4, eq-eqb _ _ f.5)

-- a geometry within the limits is a good current geometry of its own card.
pub fits_current : (g : Geometry) → fits g ≡ true → current_for g (total_of g) ≡ true
fits_current g e =
    let f = fits_facts g e in
    let p = product_positive g.heads g.sectors f.2 f.4 in
    let q : g.cylinders ≡ cylinders_for g.heads g.sectors (total_of g) =
    rw ((total-fits g e).0, mul_assoc) (sym (mul-div_cancel g.cylinders p)) in
    current_of g (total_of g) (f.2, f.3, f.4, f.5, f.0, q)

taken : (t u : Bool) (x g : Geometry) → pick t None (pick u None (Some x)) ≡ Some g → (t ≡ false) × (u ≡ false) × (x ≡ g)
taken true u x g e = let z : ◌≡◌ {A = ℕ} 0x21 0 = ap reshaped_code e in absurd (omega arith)
taken false true x g e = let z : ◌≡◌ {A = ℕ} 0x21 0 = ap reshaped_code e in absurd (omega arith)
taken false false x g e = (refl, refl, ap (λ (r : Reshaped). current_after r x) e)

-- what 91H takes from the Count register is a good current geometry: its C is at least 1.
pub reshaped_current : (count head n : ℕ) (g : Geometry) → count < 256 → reshaped count head n ≡ Some g → current_for g n ≡ true
unfolding reshaped
reshaped_current count head n g b e =
    let t = taken (eqb count 0) (ltb n ((head % 16 + 1) * count)) (geometry_by (head % 16 + 1) count n) g e in
    let k = eqb-false count 0 t.0 in
    let l = ltb-false n ((head % 16 + 1) * count) t.1 in
    let p = product_positive (head % 16 + 1) count (omega arith) (omega arith) in
    let q : 1 ≤ n / ((head % 16 + 1) * count) = (le-div_iff_mul-le p).1 (omega arith) in
    rw (← t.2) (current_of (geometry_by (head % 16 + 1) count n) n (omega arith, omega arith, omega arith, omega arith, q, refl))

-- so 91H, taken or refused, leaves a good current geometry.
pub after_current : (count head n : ℕ) (r : Reshaped) (old : Geometry) → count < 256 → reshaped count head n ≡ r → current_for old n ≡ true → current_for (current_after r old) n ≡ true
after_current count head n (Some g) old b e h = reshaped_current count head n g b e
after_current count head n None old b e h = h
