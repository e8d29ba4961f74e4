-- 02, "One": a command's first sector has a place in its block, and so has each one after it.
use Prim.Native.Nat.{ℕ, ◌+◌, ◌<◌}
use mathlib.Core.Bool.{true, false}
use mathlib.Core.Path.{◌≡◌, refl, sym, ◌∙◌}
use native.Mathlib.Omega.{arith}
use lib.Dec.{ltb, eqb}
use borrow.Author.Tests.{lt-ltb, ltb-true, ltb-false, eq-eqb, ne_eqb, eqb-false}
use Rattle.ground.proofs.Picks.{pick-elim, pick_same, both_of}
use Rattle.registers.specs.declared.Pace.{Pace}
use Rattle.registers.specs.Blocks.{no_block, single, pace_from, place_after, pace_after}
use Rattle.registers.specs.WellMade.{stride_fits, pace_fits}

-- taken apart: the stride fits, and the place is below it
pub pace_apart : (k : Pace) (b : ℕ) → pace_fits k b ≡ true → (stride_fits k.stride b ≡ true) × (k.place < k.stride)
unfolding pace_fits
pace_apart k b e = let x = both_of (stride_fits k.stride b) (ltb k.place k.stride) e in (x.0, ltb-true k.place k.stride x.1)

pub place_below : (stride place : ℕ) → place < stride → place_after stride place < stride
unfolding place_after
place_below stride place l =
    pick-elim (λ (n : ℕ). n < stride) (ltb (place + 1) stride) _ _ (λ e. ltb-true (place + 1) stride e) (λ e. omega arith)

-- the next sector is the first of its block where this one was the last
pub after-starts : (stride place : ℕ) → place < stride → eqb (place_after stride place) 0 ≡ eqb (place + 1) stride
unfolding place_after
after-starts stride place l =
    pick-elim (λ (n : ℕ). eqb n 0 ≡ eqb (place + 1) stride) (ltb (place + 1) stride) _ _
    (λ e. let h = ltb-true (place + 1) stride e in ne_eqb (place + 1) 0 (λ z. omega arith) ∙ sym (ne_eqb (place + 1) stride (λ z. omega arith)))
    (λ e. let h = ltb-false (place + 1) stride e in sym (eq-eqb (place + 1) stride (omega arith)))

pub pace_after_lem : (k : Pace) (b : ℕ) → pace_fits k b ≡ true → pace_fits (pace_after k) b ≡ true
unfolding pace_fits
pace_after_lem k b e = let f = pace_apart k b e in rw f.0 (lt-ltb (place_after k.stride k.place) k.stride (place_below k.stride k.place f.1))

pub single-fits : (b : ℕ) → pace_fits single b ≡ true
unfolding pace_fits stride_fits
single-fits b = refl

pub block_paces : (b : ℕ) → eqb b no_block ≡ false → pace_fits (pace_from b) b ≡ true
unfolding pace_fits stride_fits
block_paces b e = let z = eqb-false b 0 e in rw (eq-eqb b b refl, pick_same (eqb b 1) true) (lt-ltb 0 b (omega arith))
