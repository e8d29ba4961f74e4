-- Tests in an order, each with what it gives: 01, "Answers": "The first that applies, in this order, is given".
use Rattle.std.specs.Prelude.{Bool, not, List, [], ◌∷◌}
use Rattle.ground.specs.Choice.{pick}

-- a row: its test and what it gives; it applies where the test holds, or where it does not
pub data Row (R : Type 0) : Type 0 where
  When : Bool → R → Row R
  Unless : Bool → R → Row R

abbrev pub applies : {R : Type 0} → Row R → Bool
applies (When t r) = t
applies (Unless t r) = not t

abbrev pub given : {R : Type 0} → Row R → R
given (When t r) = r
given (Unless t r) = r

-- what the first row that applies gives; else what comes after the table
abbrev pub first_of {ℓ} : {R : Type 0} {A : Type ℓ} → List (Row R) → (R → A) → A → A
first_of [] give rest = rest
first_of (When t r ∷ l) give rest = pick t (give r) (first_of l give rest)
first_of (Unless t r ∷ l) give rest = pick t (first_of l give rest) (give r)

-- where a row gives the answer itself
abbrev pub first_or : {A : Type 0} → List (Row A) → A → A
first_or {A} l rest = first_of l (λ (x : A). x) rest
