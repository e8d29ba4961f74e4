-- 01, "When a promise is good enough": each lazy card fails the sample that 01 names for it, by itself.
use Prim.Native.Nat.{ℕ}
use mathlib.Core.Bool.{Bool, true, false, ◌&&◌, and-true, true≢false}
use mathlib.Core.Path.{◌≡◌, refl, ap, ◌∙◌}
use native.Mathlib.Omega.{arith}
use lib.Dec.{eqb}
use borrow.Author.Tests.{eqb-true, ne_eqb}
use Rattle.answers.specs.declared.Refusal.{Refusal}
use Rattle.answers.specs.Answers.{number_of}
use Rattle.answers.proofs.Outcomes.{number_range}
use Rattle.samples.specs.List.{sample5, sample6, sample7, sample11}
use Rattle.samples.specs.Passes.{reader, holds_of}
use Rattle.samples.specs.Lazy.{refuses_all, reads50_h, ignores_writes, makes_up_count}
use Rattle.samples.proofs.Computing.{computing}

first_fails : (t u : Bool) → t ≡ false → (t && u) ≡ false
first_fails true u e = absurd (true≢false e)
first_fails false u e = refl

-- "A card that refuses all, one that always reads 50H and one that ignores writes are shut out … through samples 5, 6 and 11."
pub refuses_all_5 : (r : Refusal) → holds_of (refuses_all r) reader sample5 ≡ false
unfolding computing refuses_all
refuses_all_5 r = first_fails (eqb (number_of r) 0) _ (ne_eqb (number_of r) 0 (λ e. omega (arith, e, number_range r)))

pub reads_50h_6 : holds_of reads50_h reader sample6 ≡ false
unfolding computing reads50_h
reads_50h_6 = refl

pub ignores_writes_11 : holds_of ignores_writes reader sample11 ≡ false
unfolding computing ignores_writes
ignores_writes_11 = refl

-- "A made-up Sector Count breaks samples 6 and 7.": each lets only the number pass that is right there
pub makes_up_count_6 : (n : ℕ) → holds_of (makes_up_count n) reader sample6 ≡ eqb n 1
unfolding computing makes_up_count
makes_up_count_6 n = and-true (eqb n 1)

pub makes_up_count_7 : (n : ℕ) → holds_of (makes_up_count n) reader sample7 ≡ eqb n 0
unfolding computing makes_up_count
makes_up_count_7 n = and-true (eqb n 0)

-- so any other fails it, by itself
pub made_up_count_fails_6 : (n : ℕ) → (n ≡ 1 → ⊥) → holds_of (makes_up_count n) reader sample6 ≡ false
made_up_count_fails_6 n wrong = makes_up_count_6 n ∙ ne_eqb n 1 wrong

pub made_up_count_fails_7 : (n : ℕ) → (n ≡ 0 → ⊥) → holds_of (makes_up_count n) reader sample7 ≡ false
made_up_count_fails_7 n wrong = makes_up_count_7 n ∙ ne_eqb n 0 wrong

-- and every made-up Count fails one of them
apart : (n : ℕ) (b : Bool) → eqb n 1 ≡ b → (b && eqb n 0) ≡ false
apart n true e = ap (λ (k : ℕ). eqb k 0) (eqb-true n 1 e)
apart n false e = refl

pub makes_up_count_lem : (n : ℕ) → (holds_of (makes_up_count n) reader sample6 && holds_of (makes_up_count n) reader sample7) ≡ false
makes_up_count_lem n = rw (makes_up_count_6 n, makes_up_count_7 n) (apart n (eqb n 1) refl)
