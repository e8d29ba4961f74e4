-- Row 11: an access to the data port is refused where the half, or one half of the word, is already moved.
use Rattle.std.proofs.Common.{None, Some}
use Prim.Native.Nat.{ℕ}
use mathlib.Core.Path.{◌≡◌, refl, sym, ◌∙◌}
use mathlib.Core.Bool.{Bool, true, false}
use Rattle.ground.specs.Choice.{pick}
use Rattle.answers.specs.Answers.{outcome_number}
use Rattle.maps.specs.declared.Port.{Port}
use Rattle.maps.specs.declared.Target.TheVariants.{Data}
use Rattle.registers.specs.declared.Half.{Half}
use Rattle.registers.specs.declared.Transfer.{Transfer}
use Rattle.registers.specs.declared.Phase.{Phase}
use Rattle.registers.specs.declared.Phase.TheVariants.{Idle, DataIn, DataOut}
use Rattle.registers.specs.Machine.{Machine}
use Rattle.port.specs.Halves.{take_of, Take}
use Rattle.port.specs.Data.{accepted, held_value, taken_read, phase_read, data_read, taken_written, phase_written, data_written}
use Rattle.card.specs.declared.Meaning.{Meaning}
use Rattle.card.specs.declared.Meaning.TheVariants.{ReadData, WriteData}
use Rattle.card.specs.Access.{Asked, targeted}
use Rattle.card.specs.Perform.{perform}
use Rattle.card.specs.Rows.{half_in, moved_so_far, high_moved, one_moved}

-- the number of what a meaning comes to
abbrev pub number_after : Meaning → Machine → ℕ
number_after k m = outcome_number (perform k m).outcome

abbrev pub eleven_if : Bool → ℕ
eleven_if t = pick t 11 0

-- what is asked for is gone
abbrev pub gone : Port → Half → Bool
gone Port.Even half = false
gone Port.Odd half = high_moved half
gone Port.Word half = one_moved half

none_gone : (p : Port) → eleven_if (gone p Half.Nothing) ≡ 0
none_gone Port.Even = refl
none_gone Port.Odd = refl
none_gone Port.Word = refl

-- what a taking of halves comes to
abbrev take_number : Take → ℕ
take_number None = 11
take_number (Some (part, whole)) = 0

take_gone : (h : Half) (p : Port) → take_number (take_of h p) ≡ eleven_if (gone p h)
unfolding take_of
take_gone Half.Nothing Port.Even = refl
take_gone Half.Nothing Port.Odd = refl
take_gone Half.Nothing Port.Word = refl
take_gone Half.Low Port.Even = refl
take_gone Half.Low Port.Odd = refl
take_gone Half.Low Port.Word = refl
take_gone Half.High Port.Even = refl
take_gone Half.High Port.Odd = refl
take_gone Half.High Port.Word = refl

taken_read_lem : (k : Take) (t : Transfer) (m : Machine) → outcome_number (taken_read k t m).outcome ≡ take_number k
taken_read_lem None t m = refl
taken_read_lem (Some (part, whole)) t m = refl

taken-written : (k : Take) (v : ℕ) (t : Transfer) (m : Machine) → outcome_number (taken_written k v t m).outcome ≡ take_number k
taken-written None v t m = refl
taken-written (Some (part, whole)) v t m = refl

-- "With no transfer that way, a read gives FFH or FFFFH and a write has no effect"
phase_read_lem : (f : Phase) (p : Port) (m : Machine) → outcome_number (phase_read f p m).outcome ≡ eleven_if (gone p (half_in f false))
phase_read_lem Idle p m = sym (none_gone p)
phase_read_lem (DataIn t) p m = taken_read_lem (take_of t.half p) t m ∙ take_gone t.half p
phase_read_lem (DataOut t) p m = sym (none_gone p)

phase_written_lem : (f : Phase) (p : Port) (v : ℕ) (m : Machine) → outcome_number (phase_written f p v m).outcome ≡ eleven_if (gone p (half_in f true))
phase_written_lem Idle p v m = sym (none_gone p)
phase_written_lem (DataIn t) p v m = sym (none_gone p)
phase_written_lem (DataOut t) p v m = taken-written (take_of t.half p) v t m ∙ take_gone t.half p

-- … and in a Device Control hold there is none
held_read : (h : Bool) (p : Port) (m : Machine) →
    outcome_number (pick h (accepted (held_value p) m) (phase_read m.phase p m)).outcome ≡ eleven_if (gone p (pick h Half.Nothing (half_in m.phase false)))
held_read true p m = sym (none_gone p)
held_read false p m = phase_read_lem m.phase p m

held_written : (h : Bool) (p : Port) (v : ℕ) (m : Machine) →
    outcome_number (pick h (accepted 0 m) (phase_written m.phase p v m)).outcome ≡ eleven_if (gone p (pick h Half.Nothing (half_in m.phase true)))
held_written true p v m = sym (none_gone p)
held_written false p v m = phase_written_lem m.phase p v m

data_by : (write : Bool) (p : Port) (v : ℕ) (m : Machine) → number_after (pick write (WriteData p v) (ReadData p)) m ≡ eleven_if (gone p (moved_so_far m write))
unfolding perform data_read data_written
data_by true p v m = held_written m.state.control.held p v m
data_by false p v m = held_read m.state.control.held p m

pub data_number : (p : Port) (a : Asked) (m : Machine) → number_after (targeted (Data p) a) m ≡ eleven_if (gone p (moved_so_far m a.access.write))
data_number p a m = data_by a.access.write p a.access.value m
