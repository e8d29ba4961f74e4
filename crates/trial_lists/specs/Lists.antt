-- oracle/TRIAL.md: the lists of tuples that `trial` lends.
use Rattle.std.specs.Prelude.{ℕ, zero, suc, min, ◌≡◌, List, ◌∷◌, ◌++◌, [], length, get_or, replicate}
use Rattle.answers.specs.Answers.{Says, Outcome}
use Rattle.tuples.specs.Chain.{chain_at}
use Rattle.tuples.specs.Read.{list_places, read_outcome, read_list, unless_refused}
use Rattle.tuples.specs.Write.{tuple_bytes, filled_up, write_outcome}
use Rattle.tuples.specs.declared.Entry.{Entry}
use Rattle.trial_lists.specs.declared.Handed.{Handed}

-- "more than 256 count as 256"
abbrev pub counted_as : ℕ → ℕ
counted_as n = min n 256

-- what the place of a number holds after a list of so many places that all held one entry was read into
abbrev pub handed_after : List ℕ → ℕ → Entry → ℕ → Handed
handed_after s places before i =
    record { outcome = read_outcome s (counted_as places); entry = get_or (read_list s (replicate (counted_as places) before)) i before }

abbrev pub HandedAfter : List ℕ → ℕ → Entry → ℕ → Handed → Type 0
HandedAfter s places before i r = (r ≡ handed_after s places before i) × Says r.outcome (read_outcome s (counted_as places))

-- a list of n tuples: all are e, and the last is f
unfoldable pub made : ℕ → Entry → Entry → List Entry
made zero e f = []
made (suc n) e f = replicate n e ++ (f ∷ [])

-- a chain is read, and where that is not refused, its entries are written over the same bytes
abbrev pub back_outcome : List ℕ → ℕ → Outcome
back_outcome s n = unless_refused (read_outcome s list_places) (write_outcome s (chain_at s 0).entries n) (read_outcome s list_places)

abbrev pub back_list : List ℕ → List ℕ → List ℕ
back_list s out = unless_refused (back_outcome s (length out)) (filled_up (tuple_bytes s (chain_at s 0).entries)) out

abbrev pub WritesBack : List ℕ → List ℕ → Outcome → List ℕ → Type 0
WritesBack s out r z = (r ≡ back_outcome s (length out)) × (z ≡ back_list s out) × Says r (back_outcome s (length out))
