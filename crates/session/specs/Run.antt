-- 01, "Session file": the accesses of a file or of a part of one, in turn, and what is printed of them.
use Rattle.std.specs.Prelude.{ℕ, zero, suc, ◌+◌, ◌%◌, ◌^◌, List, [], ◌∷◌, ◌++◌, length, nat_le, Result, Ok, Err}
use Rattle.ground.specs.Choice.{pick}
use Rattle.answers.specs.Answers.{number_of, outcome_number, Outcome}
use Rattle.registers.specs.Machine.{Machine}
use Rattle.port.specs.Data.{Effect}
use Rattle.card.specs.Access.{Asked, asked_with}
use Rattle.card.specs.Step.{Played, play}
use Rattle.card.specs.Doors.{machine_of}
use Rattle.maps.specs.declared.Access.{Access}
use Rattle.records.specs.declared.Break.{Break}
use Rattle.session.specs.declared.Failure.{Failure}
use Rattle.session.specs.declared.Failure.TheVariants.{Broken, Unopened}
use Rattle.session.specs.declared.Told.{Told}
use Rattle.session.specs.declared.Ran.{Ran}
use Rattle.records.specs.Record.{next_record, access_length}
use Rattle.text.specs.Lines.{line, shown_value, bad, unopened}
use Rattle.text.specs.Output.{Output, output, put, put_at_start}

-- how a session or a part of one ended: whole, or why not
abbrev pub Ending : Type 0
Ending = Result (Unit {0}) Failure

-- what the records of a part ask for: its accesses, and the place where it ends and how
pub record Script : Type 0 where
  pub accesses : List Asked
  pub place : ℕ
  pub end : Ending

abbrev pub ends : ℕ → Ending → Script
ends place e = record { accesses = []; place = place; end = e }

abbrev pub goes_on : Asked → Script → Script
goes_on a s = record { accesses = a ∷ s.accesses; place = s.place; end = s.end }

abbrev pub by_after : Result Access Break → (ℕ → Script) → List ℕ → ℕ → Script
by_after (Ok a) rest tuples at = goes_on (asked_with a tuples) (rest (at + access_length a.write))
by_after (Err why) rest tuples at = ends at (Err (Broken why))

-- at most so many accesses, from a place on: "accesses before it stand", and nothing after it
unfoldable pub script_from : ℕ → List ℕ → List ℕ → ℕ → Script
script_from zero part tuples at = ends at (Ok tt)
script_from (suc most) part tuples at =
    pick (nat_le (length part) at) (ends at (Ok tt)) (by_after (next_record part at) (script_from most part tuples) tuples at)

-- numbers and places have 64 bits
abbrev pub wrapped : ℕ → ℕ
wrapped n = n % 2 ^ 64

abbrev pub line_text : ℕ → Asked → Outcome → List ℕ
line_text number a o = line number a.access.write (outcome_number o) (shown_value o a.access.write a.access.value)

abbrev pub lines_of : ℕ → List Asked → List Effect → List ℕ
lines_of number [] steps = []
lines_of number (a ∷ l) [] = []
lines_of number (a ∷ l) (s ∷ steps) = line_text number a s.outcome ++ lines_of (wrapped (number + 1)) l steps

-- "at a broken record `bad` and the place of its first byte"; "A refused opening prints `open` and the number"
abbrev pub end_text : Ending → ℕ → List ℕ
end_text (Ok u) place = []
end_text (Err (Broken why)) place = bad place
end_text (Err (Unopened r)) place = unopened (number_of r)

-- what a session or a part of one comes to: the place reached, the accesses done, how it ended, and its text, as bytes or as the output that holds it
pub record Session (T : Type 0) : Type 0 where
  pub place : ℕ
  pub done : ℕ
  pub end : Ending
  pub text : T

-- what a run leaves
pub record RunResult (T : Type 0) : Type 0 where
  pub machine : Machine
  pub session : Session T

abbrev pub session_by : List Effect → ℕ → ℕ → Script → Session (List ℕ)
session_by steps first number s =
    record {
      place = wrapped (first + s.place);
      done = length s.accesses;
      end = s.end;
      text = lines_of number s.accesses steps ++ end_text s.end (wrapped (first + s.place));
    }

abbrev pub result_as : Played → ℕ → ℕ → Script → RunResult (List ℕ)
result_as p first number s = record { machine = p.last; session = session_by p.steps first number s }

-- the part begins at the place `first` of its file, its first access has this number
unfoldable pub result_of : ℕ → ℕ → Machine → Script → RunResult (List ℕ)
result_of first number m s = result_as (play m s.accesses) first number s

-- ---- with the text in an output

abbrev pub printed_in : Output → Session (List ℕ) → Session Output
printed_in o s = record { place = s.place; done = s.done; end = s.end; text = o }

abbrev pub printed_at : Output → Session (List ℕ) → Session Output
printed_at o s = printed_in (put o s.text) s

abbrev pub shown_in : Output → RunResult (List ℕ) → RunResult Output
shown_in o r = record { machine = r.machine; session = printed_in o r.session }

abbrev pub shown_at : Output → RunResult (List ℕ) → RunResult Output
shown_at o r = shown_in (put o r.session.text) r

-- of an output from its start
abbrev pub shown : List ℕ → RunResult (List ℕ) → RunResult Output
shown bytes r = shown_in (put_at_start bytes r.session.text) r

-- all that is left, of an answer and what was lent
abbrev pub told_as : Told → List ℕ → Session Output
told_as t bytes = record { place = t.place; done = t.done; end = t.end; text = output bytes t.text }

abbrev pub ran_as : Ran → List ℕ → List ℕ → List ℕ → RunResult Output
ran_as r store marks bytes = record { machine = machine_of r.card store marks; session = told_as r.told bytes }
