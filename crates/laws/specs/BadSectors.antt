-- 02, "Eight": "Keep in the card the number of marks that are not 0", said anew.
use Rattle.std.specs.Prelude.{ℕ, ◌≡◌, List, [], ◌∷◌, eqb, length}
use Rattle.ground.specs.Choice.{pick}
use Rattle.registers.specs.Machine.{Machine, machine, core_of}
use Rattle.card.specs.Access.{Asked}
use Rattle.card.specs.Step.{step}

-- the marks that are not 0, and how many they are
unfoldable pub not_zero : List ℕ → List ℕ
not_zero [] = []
not_zero (mark ∷ marks) = pick (eqb mark 0) (not_zero marks) (mark ∷ not_zero marks)

abbrev pub bad_sectors : List ℕ → ℕ
bad_sectors marks = length (not_zero marks)

-- "It equals the count over the lent marks"
abbrev pub Counts : Machine → Type 0
Counts m = m.state.bad ≡ bad_sectors m.marks

-- accesses with a store and marks that someone else may have changed before each of them
pub record Lending : Type 0 where
  pub asked : Asked
  pub store : List ℕ
  pub marks : List ℕ

abbrev pub lent : Lending → Machine → Machine
lent x m = machine (core_of m) m.buffer x.store x.marks

unfoldable pub lent_each : Machine → List Lending → Machine
lent_each m [] = m
lent_each m (x ∷ l) = lent_each (step (lent x m) x.asked).next l
