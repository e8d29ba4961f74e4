-- What an access means: 01, "Answers", the rows 12, 2, 3, 5, 8, 7, 6, 9, 10 in this order, then what stands there.
use Rattle.std.specs.Prelude.{ℕ, ◌*◌, ◌%◌, Bool, true, false, not, List, [], ◌∷◌, ◌++◌, eqb, length, get_or, Ok, Err, Result}
use Rattle.ground.specs.Choice.{pick}
use Rattle.ground.specs.Sizes.{sector_bytes, tuple_buffer_bytes}
use Rattle.answers.specs.declared.Refusal.TheVariants.{NotWellMade, StoreLength, MarksLength, TupleBufferLength, HeldBySreset}
use Rattle.ground.specs.Rows.{Row, When, Unless, first_of}
use Rattle.answers.specs.declared.Refusal.{Refusal}
use Rattle.maps.specs.declared.Access.{Access}
use Rattle.maps.specs.declared.Place.{Place}
use Rattle.maps.specs.declared.Target.{Target}
use Rattle.maps.specs.declared.Target.TheVariants.{Tuple, Option, Named, Data}
use Rattle.maps.specs.Places.{option_address, place_at}
use Rattle.maps.specs.Rows.{place_table, moved, Standing}
use Rattle.registers.specs.declared.Phase.{Phase}
use Rattle.registers.specs.declared.State.{State}
use Rattle.registers.specs.State.{sreset_in, index_in, total_in}
use Rattle.registers.specs.Machine.{Machine}
use Rattle.registers.specs.WellMade.{well_made}
use Rattle.card.specs.declared.Meaning.{Meaning}
use Rattle.card.specs.declared.Meaning.TheVariants.{TupleByte, ReadOption, WriteOption, ReadRegister, WriteRegister, ReadData, WriteData}

-- what is asked of a card: an access, and the tuple buffer that is lent with it
pub record Asked : Type 0 where
  pub access : Access
  pub tuples : List ℕ

abbrev pub asked_with : Access → List ℕ → Asked
asked_with access tuples = record { access = access; tuples = tuples }

-- ---- rows 12, 2, 3, 5: the card and what is lent

-- "Store length is 512·N, marks length N", "a 256-byte tuple buffer"
abbrev pub store_sized : State → List ℕ → Bool
store_sized s store = eqb (length store) (sector_bytes * total_in s)

abbrev pub marks_sized : State → List ℕ → Bool
marks_sized s marks = eqb (length marks) (total_in s)

abbrev pub tuples_sized : List ℕ → Bool
tuples_sized tuples = eqb (length tuples) tuple_buffer_bytes

-- by the four tests, each as it came out
abbrev pub fit_table : Bool → Bool → Bool → Bool → List (Row Refusal)
fit_table w s k t =
    Unless w NotWellMade
    ∷ Unless s StoreLength
    ∷ Unless k MarksLength
    ∷ Unless t TupleBufferLength
    ∷ []

abbrev pub lent_table : Phase → State → List ℕ → List ℕ → List ℕ → List (Row Refusal)
lent_table phase state store marks tuples = fit_table (well_made phase state) (store_sized state store) (marks_sized state marks) (tuples_sized tuples)

-- what they say of every access to the card: nothing, or a refusal
abbrev pub Verdict : Type 0
Verdict = Result (Unit {0}) Refusal

abbrev pub fit : Verdict
fit = Ok tt

unfoldable pub verdict_of : Phase → State → List ℕ → List ℕ → List ℕ → Verdict
verdict_of phase state store marks tuples = first_of (lent_table phase state store marks tuples) Err fit

-- ---- rows 8, 7, 6, 9, 10: where the access goes

-- row 8: held by SRESET, and the access is not to attribute 200H
unfoldable pub held_away : ℕ → Access → Bool
held_away option a = pick (sreset_in option) (pick (eqb a.space 0) (not (eqb a.address option_address)) true) false

-- what stands at the access's address
abbrev pub place_in : State → Asked → Place
place_in s a = place_at s.made.mode (index_in s.option) a.access

abbrev pub door_table : State → Asked → List (Row Refusal)
door_table s a = When (held_away s.option a.access) HeldBySreset ∷ place_table (place_in s a) a.access

-- ---- then what stands there

-- it is read or written; a byte write's value is at most 255 here
abbrev pub targeted : Target → Asked → Meaning
targeted (Tuple n) a = TupleByte (get_or a.tuples n 0)
targeted Option a = pick a.access.write (WriteOption (a.access.value % 256)) ReadOption
targeted (Named r) a = pick a.access.write (WriteRegister r (a.access.value % 256)) (ReadRegister r)
targeted (Data port) a = pick a.access.write (WriteData port a.access.value) (ReadData port)

abbrev pub standing : Standing → Asked → Meaning
standing (Ok t) a = targeted t a
standing (Err r) a = Meaning.Refused r

abbrev pub meant_there : State → Asked → Meaning
meant_there s a = standing (moved (place_in s a) a.access.width) a

-- ---- all of them: "The first that applies, in this order, is given"

abbrev pub access_table : Machine → Asked → List (Row Refusal)
access_table m a = lent_table m.phase m.state m.store m.marks a.tuples ++ door_table m.state a

unfoldable pub meaning : Machine → Asked → Meaning
meaning m a = first_of (access_table m a) Meaning.Refused (meant_there m.state a)

-- where rows 12, 2, 3 and 5 do not apply
unfoldable pub decided : State → Asked → Meaning
decided s a = first_of (door_table s a) Meaning.Refused (meant_there s a)
