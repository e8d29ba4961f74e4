-- 01, "Answers": a table of refusals, looked through from the top: "The first that applies, in this order, is given".
use Rattle.std.specs.Prelude.{ℕ, Bool, true, false, ◌≡◌, List, [], ◌∷◌, eqb, Err}
use Rattle.ground.specs.Choice.{pick}
use Rattle.ground.specs.Rows.{Row, applies, given}
use Rattle.answers.specs.declared.Refusal.{Refusal}
use Rattle.answers.specs.Answers.{number_of, refused, Outcome}

-- row n of the table applies
abbrev pub applies_at : List (Row Refusal) → ℕ → Bool
applies_at [] n = false
applies_at (x ∷ l) n = pick (eqb (number_of (given x)) n) (applies x) (applies_at l n)

-- of the rows in this order, n applies and none before it does
abbrev pub FirstRow : List ℕ → List (Row Refusal) → ℕ → Type 0
FirstRow [] table n = ⊥
FirstRow (k ∷ l) table n = pick (eqb k n) (applies_at table k ≡ true) ((applies_at table k ≡ false) × FirstRow l table n)

-- none of them applies
abbrev pub NoRow : List ℕ → List (Row Refusal) → Type 0
NoRow [] table = Unit {0}
NoRow (k ∷ l) table = (applies_at table k ≡ false) × NoRow l table

abbrev pub Exactly : Type 0 → Type 0 → Type 0
Exactly A B = (A → B) × (B → A)

-- an outcome is a refusal exactly if its row is the first that applies, and accepted exactly if none does
abbrev pub ByRows : List ℕ → List (Row Refusal) → Outcome → Type 0
ByRows order table o =
    ((r : Refusal) → Exactly (o ≡ Err r) (FirstRow order table (number_of r)))
    × Exactly (refused o ≡ false) (NoRow order table)
