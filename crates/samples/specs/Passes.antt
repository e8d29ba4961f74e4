-- The samples as a demand on any machine and any tuple reader.
use Rattle.std.specs.Prelude.{ℕ, Bool, true, false, ◌&&◌, List, [], ◌∷◌, eqb, length, replicate}
use Rattle.answers.specs.Answers.{outcome_number, outcome_value, Outcome}
use Rattle.registers.specs.Machine.{Machine}
use Rattle.port.specs.Data.{Effect}
use Rattle.card.specs.Access.{Asked}
use Rattle.tuples.specs.declared.Entry.{Entry}
use Rattle.tuples.specs.Chain.{no_entry}
use Rattle.tuples.specs.Read.{list_places, read_outcome, read_list}
use Rattle.samples.specs.Lines.{opening, agrees}
use Rattle.tuples.specs.Write.{filled_up}
use Rattle.samples.specs.List.{Sample, Accesses, Tuples, samples}

-- what a tuple reader leaves: its answer, and the list that was lent to it
pub record Reading : Type 0 where
  pub outcome : Outcome
  pub list : List Entry

-- the reader, as `read_tuples` promises
unfoldable pub reader : List ℕ → List Entry → Reading
reader buffer list = record { outcome = read_outcome buffer (length list); list = read_list buffer list }

-- the entries that a reader leaves in a list of 127 places are these, in order, and the next place keeps what it held
unfoldable pub same_entries : List Entry → List Entry → Bool
same_entries [] [] = false
same_entries [] (e ∷ l) = eqb e.code 0
same_entries (e ∷ l) [] = false
same_entries (e ∷ l) (f ∷ k) = let rest = same_entries l k in eqb e.code f.code && (eqb e.start f.start && (eqb e.length f.length && rest))

unfoldable pub reads_as : Reading → List Entry → Bool
reads_as r entries =
    eqb (outcome_number r.outcome) 0
    && (eqb (outcome_value r.outcome) (length entries)
    && same_entries entries r.list)

unfoldable pub holds_of : (Machine → Asked → Effect) → (List ℕ → List Entry → Reading) → Sample → Bool
holds_of turn read (Accesses mode lines) = agrees turn (opening mode) lines
holds_of turn read (Tuples bytes entries) = reads_as (read (filled_up bytes) (replicate list_places no_entry)) entries

unfoldable pub all_of : (Machine → Asked → Effect) → (List ℕ → List Entry → Reading) → List Sample → Bool
all_of turn read [] = true
all_of turn read (s ∷ l) = let rest = all_of turn read l in holds_of turn read s && rest

-- the samples as a demand on any machine and any tuple reader
unfoldable pub passes : (Machine → Asked → Effect) → (List ℕ → List Entry → Reading) → Bool
passes turn read = all_of turn read samples
