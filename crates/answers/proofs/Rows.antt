-- Laws of a table of refusals.
--     first_of_lem    what is done to its answer is done to each row's
--     passed      where it refuses nothing, no row applies
--     by_rows     an outcome that has its number is refused by the first row that applies
use Rattle.std.proofs.Common.{Ok, Err}
use Prim.Native.Nat.{ℕ}
use mathlib.Core.Path.{◌≡◌, refl, sym, ap, ◌∙◌}
use mathlib.Core.Bool.{Bool, true, false, true≢false, false≢true}
use mathlib.Core.List.{List, [], ◌∷◌}
use native.Mathlib.Omega.{arith}
use lib.Dec.{eqb}
use borrow.Author.Tests.{eqb-true, eq-eqb, ne_eqb}
use Rattle.ground.specs.Choice.{pick}
use Rattle.ground.proofs.Picks.{pick-elim, pick_same, not_first}
use Rattle.answers.specs.declared.Refusal.{Refusal}
use Rattle.answers.specs.Answers.{number_of, outcome_number, refused, Outcome}
use Rattle.ground.specs.Rows.{Row, When, Unless, applies, given, first_of}
use Rattle.answers.specs.Rows.{applies_at, Exactly}
use Rattle.answers.proofs.Outcomes.{number_range, same_number}

pub first_of_lem {ℓ κ} : {A : Type ℓ} {B : Type κ} (f : A → B) (l : List (Row Refusal)) (give : Refusal → A) (rest : A) → f (first_of l give rest) ≡ first_of l (λ (r : Refusal). f (give r)) (f rest)
first_of_lem f [] give rest = refl
first_of_lem f (When true r ∷ l) give rest = refl
first_of_lem f (When false r ∷ l) give rest = first_of_lem f l give rest
first_of_lem f (Unless true r ∷ l) give rest = first_of_lem f l give rest
first_of_lem f (Unless false r ∷ l) give rest = refl

pub passed : (l : List (Row Refusal)) (rest : Outcome) → refused (first_of l Err rest) ≡ false → (first_of l Err rest ≡ rest) × ((n : ℕ) → applies_at l n ≡ false)
passed [] rest e = (refl, λ n. refl)
passed (When true r ∷ l) rest e = absurd (true≢false e)
passed (When false r ∷ l) rest e = let p = passed l rest e in (p.0, λ n. rw (p.1 n) (pick_same (eqb (number_of r) n) false))
passed (Unless true r ∷ l) rest e = let p = passed l rest e in (p.0, λ n. rw (p.1 n) (pick_same (eqb (number_of r) n) false))
passed (Unless false r ∷ l) rest e = absurd (true≢false e)

-- the number of a row, and that which a table gives
abbrev row_number : Row Refusal → ℕ
row_number x = number_of (given x)

abbrev table_number : List (Row Refusal) → ℕ
table_number l = first_of l number_of 0

number_by : (x : Row Refusal) (l : List (Row Refusal)) → table_number (x ∷ l) ≡ pick (applies x) (row_number x) (table_number l)
number_by (When t r) l = refl
number_by (Unless true r) l = refl
number_by (Unless false r) l = refl

-- FirstRow and NoRow, in the table's own order
abbrev First : List (Row Refusal) → ℕ → Type 0
First [] n = ⊥
First (x ∷ l) n = pick (eqb (row_number x) n) (applies x ≡ true) ((applies x ≡ false) × First l n)

abbrev Silent : List (Row Refusal) → Type 0
Silent [] = Unit {0}
Silent (x ∷ l) = (applies x ≡ false) × Silent l

-- the number stands in the table; no number stands twice
abbrev stands : ℕ → List (Row Refusal) → Bool
stands n [] = false
stands n (x ∷ l) = pick (eqb n (row_number x)) true (stands n l)

abbrev once : List (Row Refusal) → Bool
once [] = true
once (x ∷ l) = pick (stands (row_number x) l) false (once l)

-- ---- what is first is given
first-given : (l : List (Row Refusal)) (n : ℕ) → First l n → table_number l ≡ n
first-given [] n d = absurd d
first-given (x ∷ l) n d =
    number_by x l
    ∙ pick-elim (λ (X : Type 0). X → pick (applies x) (row_number x) (table_number l) ≡ n) (eqb (row_number x) n) _ _
    (λ e t. rw t (eqb-true _ _ e))
    (λ e t. rw t.0 (first-given l n t.1))
    d

silent-given : (l : List (Row Refusal)) → Silent l → table_number l ≡ 0
silent-given [] s = refl
silent-given (x ∷ l) s = number_by x l ∙ rw s.0 (silent-given l s.1)

-- ---- what is given is first
stands_here : (t : Bool) (k n rest : ℕ) (s : Bool) → (rest ≡ n → s ≡ true) → pick t k rest ≡ n → pick (eqb n k) true s ≡ true
stands_here true k n rest s f e = rw (eq-eqb n k (sym e))
stands_here false k n rest s f e = rw (f e) (pick_same (eqb n k) true)

given_stands : (l : List (Row Refusal)) (n : ℕ) → (n ≡ 0 → ⊥) → table_number l ≡ n → stands n l ≡ true
given_stands [] n z e = absurd (z (sym e))
given_stands (x ∷ l) n z e = stands_here (applies x) (row_number x) n (table_number l) (stands n l) (given_stands l n z) (sym (number_by x l) ∙ e)

first_here : (t : Bool) (k n rest : ℕ) (F : Type 0) → (k ≡ n → rest ≡ n → ⊥) → (rest ≡ n → F) → pick t k rest ≡ n → pick (eqb k n) (t ≡ true) ((t ≡ false) × F)
first_here true k n rest F u f e = rw (eq-eqb k n e) refl
first_here false k n rest F u f e = rw (ne_eqb k n (λ h. u h e)) (refl, f e)

given-first : (l : List (Row Refusal)) (n : ℕ) → once l ≡ true → (n ≡ 0 → ⊥) → table_number l ≡ n → First l n
given-first [] n u z e = z (sym e)
given-first (x ∷ l) n u z e =
    let p = not_first (stands (row_number x) l) (once l) u in
    first_here (applies x) (row_number x) n (table_number l) (First l n)
    (λ h f. false≢true (sym p.0 ∙ ap (λ (k : ℕ). stands k l) h ∙ given_stands l n z f))
    (given-first l n p.1 z)
    (sym (number_by x l) ∙ e)

no_zero : (r : Refusal) → number_of r ≡ 0 → ⊥
no_zero r e = omega (arith, number_range r)

none_here : (t : Bool) (k rest : ℕ) (S : Type 0) → (k ≡ 0 → ⊥) → (rest ≡ 0 → S) → pick t k rest ≡ 0 → (t ≡ false) × S
none_here true k rest S z f e = absurd (z e)
none_here false k rest S z f e = (refl, f e)

given-none : (l : List (Row Refusal)) → table_number l ≡ 0 → Silent l
given-none [] e = tt
given-none (x ∷ l) e = none_here (applies x) (row_number x) (table_number l) (Silent l) (no_zero (given x)) (given-none l) (sym (number_by x l) ∙ e)

-- ---- of an outcome; where the table has the order that is asked for, this is ByRows
refused_by_lem : (o : Outcome) (r : Refusal) → outcome_number o ≡ number_of r → o ≡ Err r
refused_by_lem (Ok value) r e = absurd (no_zero r (sym e))
refused_by_lem (Err s) r e = ap Err (same_number s r e)

accepted-zero : (o : Outcome) → Exactly (refused o ≡ false) (outcome_number o ≡ 0)
accepted-zero (Ok value) = (λ e. refl, λ e. refl)
accepted-zero (Err r) = (λ e. absurd (true≢false e), λ e. absurd (no_zero r e))

pub by_rows : (table : List (Row Refusal)) (o : Outcome) → once table ≡ true → outcome_number o ≡ table_number table →
    ((r : Refusal) → Exactly (o ≡ Err r) (First table (number_of r))) × Exactly (refused o ≡ false) (Silent table)
by_rows table o u e = (
  λ r. (λ h. given-first table (number_of r) u (no_zero r) (sym e ∙ ap outcome_number h), λ f. refused_by_lem o r (e ∙ first-given table (number_of r) f)),
  (λ h. given-none table (sym e ∙ (accepted-zero o).0 h), λ s. (accepted-zero o).1 (e ∙ silent-given table s)),
)
