-- The opening's own tests say what 01's words say: rows 1, 2, 3 and 4.
use Prim.Native.Nat.{ℕ, zero, suc, ◌*◌}
use mathlib.Core.Path.{◌≡◌, refl, ◌∙◌}
use mathlib.Core.Bool.{Bool, true, false, not, ◌&&◌, ◌||◌}
use mathlib.Core.List.{List, [], ◌∷◌}
use lib.Dec.{eqb, leb, ltb}
use lib.ListN.{length}
use native.Mathlib.Omega.{arith}
use borrow.Author.Tests.{leb-true, leb-false, lt-leb, lt-ltb, le-ltb, ne_eqb}
use Rattle.ground.proofs.Picks.{pick-not}
use Rattle.ground.specs.Choice.{pick, every}
use Rattle.answers.specs.Answers.{number_of}
use Rattle.ground.specs.Rows.{first_of}
use Rattle.geometry.specs.declared.Geometry.{Geometry}
use Rattle.geometry.specs.Limits.{fits, total_of}
use Rattle.sectors.specs.Marks.{marks_fit}
use Rattle.card.specs.Opening.{opening_table}
use Rattle.card.specs.OpeningRows.{in_limits, any_above2, opening_rows}

-- ---- row 1
limits_by : (c d h i s t n m : Bool) → (every (c ∷ d ∷ every (h ∷ i ∷ s ∷ t ∷ []) ∷ n ∷ []) && m) ≡ ((c && d) && (h && i) && (s && t) && n && m)
unfolding every
limits_by false d h i s t n m = refl
limits_by true false h i s t n m = refl
limits_by true true false i s t n m = refl
limits_by true true true false s t n m = refl
limits_by true true true true false t n m = refl
limits_by true true true true true false n m = refl
limits_by true true true true true true false m = refl
limits_by true true true true true true true m = refl

mode_is : (mode : ℕ) → leb mode 1 ≡ (eqb mode 0 || eqb mode 1)
mode_is zero = refl
mode_is (suc zero) = refl
mode_is (suc (suc n)) = rw (lt-leb (suc (suc n)) 1 (omega arith), ne_eqb (suc (suc n)) 0 (λ e. omega (arith, e)), ne_eqb (suc (suc n)) 1 (λ e. omega (arith, e)))

limits_is : (g : Geometry) (mode : ℕ) → (fits g && leb mode 1) ≡ in_limits g mode
unfolding fits
limits_is g mode = rw (mode_is mode) (limits_by _ _ _ _ _ _ _ _)

-- ---- row 4
above_by : (mark : ℕ) (rest t : Bool) → leb mark 2 ≡ t → pick t (not rest) false ≡ not (ltb 2 mark || rest)
above_by mark rest true e = rw (le-ltb _ _ (leb-true mark 2 e))
above_by mark rest false e = rw (lt-ltb _ _ (leb-false mark 2 e))

above_is : (marks : List ℕ) → marks_fit marks ≡ not (any_above2 marks)
unfolding marks_fit
above_is [] = refl
above_is (mark ∷ marks) = rw (above_is marks) (above_by mark (any_above2 marks) (leb mark 2) refl)

-- ---- rows 2 and 3: N is C·H·S where row 1 does not apply
total_by : (g : Geometry) (m t : Bool) (f : ℕ → ℕ) → fits g ≡ t → pick (t && m) (f (total_of g)) 1 ≡ pick (t && m) (f (g.cylinders * g.heads * g.sectors)) 1
unfolding total_of
total_by g m true f e = rw e
total_by g m false f e = refl

pub opening_told : (g : Geometry) (mode : ℕ) (store marks tuples : List ℕ) →
    first_of (opening_table g mode store marks tuples) number_of 0 ≡ first_of (opening_rows g mode store marks tuples) number_of 0
opening_told g mode store marks tuples =
    total_by g (leb mode 1) (fits g)
    (λ (n : ℕ). pick (eqb (length store) (512 * n)) (pick (eqb (length marks) n) (pick (eqb (length tuples) 256) (pick (marks_fit marks) 0 4) 5) 3) 2)
    refl
    ∙ rw (limits_is g mode, above_is marks, pick-not)
