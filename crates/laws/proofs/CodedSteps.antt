-- Every access keeps a code where Status is in error; a Command write makes it so.
use Prim.Native.Nat.{ℕ}
use mathlib.Core.Path.{◌≡◌, sym, subst}
use mathlib.Core.Bool.{Bool, true, false, false≢true}
use Rattle.ground.specs.Choice.{pick}
use Rattle.maps.specs.declared.Register.{Register}
use Rattle.maps.specs.declared.Register.TheVariants.{StatusCommand}
use Rattle.registers.specs.declared.Phase.{Phase}
use Rattle.registers.specs.declared.Phase.TheVariants.{Idle, DataIn, DataOut}
use Rattle.registers.specs.declared.State.{State}
use Rattle.registers.specs.declared.resets.Turn.{Turn}
use Rattle.registers.specs.declared.resets.Turn.TheVariants.{Enter, Leave, Stay}
use Rattle.registers.specs.Machine.{Machine}
use Rattle.registers.specs.Resets.{rest_status, option_turn, option_turned, turn_of, bit_two, bit_one, control_turned}
use Rattle.transfers.specs.Steps.{all_moved}
use Rattle.port.specs.Data.{Effect}
use Rattle.commands.specs.Table.{command_given}
use Rattle.card.specs.declared.Meaning.{Meaning}
use Rattle.card.specs.declared.Meaning.TheVariants.{TupleByte, ReadOption, WriteOption, ReadRegister, WriteRegister, ReadData, WriteData}
use Rattle.card.specs.Perform.{option_written, register_written, perform}
use Rattle.kept.proofs.RegisterElim.{read_elim, set-elim, written-elim}
use Rattle.kept.proofs.DataElim.{part_come, data_read_elim, data_written_elim}
use Rattle.laws.specs.Coded.{in_error, Coded}
use Rattle.laws.proofs.CodedEnds.{load_read_lem, load_written_lem, commanded}

-- ---- the resets: 50H, or Status and code as they were

rest_coded : (p : Phase) (s : State) → Coded s → in_error (rest_status p s.registers.status) ≡ true → s.code ≡ 0 → ⊥
rest_coded Idle s h = h
rest_coded (DataIn t) s h = λ e. absurd (false≢true e)
rest_coded (DataOut t) s h = λ e. absurd (false≢true e)

pub option-coded : (t : Turn) (v : ℕ) (p : Phase) (s : State) → Coded s → Coded (option_turned t v p s).state
unfolding option_turned
option-coded Enter v p s h = rest_coded p s h
option-coded Leave v p s h = λ e. absurd (false≢true e)
option-coded Stay v p s h = h

pub control_coded : (t : Turn) (masked : Bool) (p : Phase) (s : State) → Coded s → Coded (control_turned t masked p s).state
unfolding control_turned
control_coded Enter masked p s h = rest_coded p s h
control_coded Leave masked p s h = λ e. absurd (false≢true e)
control_coded Stay masked p s h = h

-- ---- registers

register_written_lem : (r : Register) (v : ℕ) (m : Machine) → Coded m.state → Coded (register_written r v m).state
register_written_lem r v m h =
    written-elim (λ (n : Machine). Coded n.state) r v m h
    (λ e i. set-elim (λ (x : State). Coded x) r v m.state h h (λ a. h))
    (λ c e. commanded v m)
    (λ c. control_coded (turn_of m.state.control.held (bit_two v)) (bit_one v) m.phase m.state h)

-- a Command write outside a Device Control hold, whatever was there before
pub meant_command_coded : (v : ℕ) (m : Machine) → m.state.control.held ≡ false → Coded (perform (WriteRegister StatusCommand v) m).next.state
unfolding perform register_written
meant_command_coded v m e = subst (λ (b : Bool). Coded (pick b m (command_given v m)).state) (sym e) (commanded v m)

pub meant_coded : (x : Meaning) (m : Machine) → Coded m.state → Coded (perform x m).next.state
unfolding perform option_written
meant_coded (Meaning.Refused r) m h = h
meant_coded (TupleByte b) m h = h
meant_coded ReadOption m h = h
meant_coded (WriteOption v) m h = option-coded (option_turn v m.state) v m.phase m.state h
meant_coded (ReadRegister g) m h = read_elim (λ (x : State). Coded x) g m.state h h
meant_coded (WriteRegister g v) m h = register_written_lem g v m h
meant_coded (ReadData port) m h =
    data_read_elim (λ (x : Effect). Coded x.next.state) port m (λ v. h) h (λ v part t e. h) (λ v t e w. h) (λ v t e. load_read_lem t.load (all_moved m))
meant_coded (WriteData port v) m h =
    data_written_elim (λ (x : Effect). Coded x.next.state) port v m h h (λ part t e. h) (λ part t e w. h) (λ part t e. load_written_lem t.load (all_moved (part_come part t v m)))
