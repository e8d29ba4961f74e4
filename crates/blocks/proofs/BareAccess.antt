-- So does whatever an access means.
use Prim.Native.Nat.{ℕ}
use mathlib.Core.Bool.{Bool, true, false}
use mathlib.Core.Path.{◌≡◌, refl, ap}
use mathlib.Core.List.{List}
use Rattle.ground.specs.Choice.{pick}
use Rattle.maps.specs.declared.Register.{Register}
use Rattle.maps.specs.declared.Register.TheVariants.{ErrorFeature, SectorCount, SectorNumber, CylinderLow, CylinderHigh, DriveHead, StatusCommand, AlternateControl, DriveAddress}
use Rattle.registers.specs.declared.Phase.{Phase}
use Rattle.registers.specs.declared.Phase.TheVariants.{Idle, DataIn, DataOut}
use Rattle.registers.specs.declared.State.{State}
use Rattle.registers.specs.declared.resets.Turn.{Turn}
use Rattle.registers.specs.declared.resets.Turn.TheVariants.{Enter, Leave, Stay}
use Rattle.registers.specs.State.{runs}
use Rattle.registers.specs.Machine.{Machine, machine, core, with_core, core_of}
use Rattle.registers.specs.Resets.{turn_of, option_turned, control_turned, bit_two, bit_one, option_turn, option_buffer}
use Rattle.registers.specs.Values.{value_read, after_read, register_set, writing_bit, register_value}
use Rattle.port.specs.Data.{data_read, data_written, accepted, refused_with, effect, held_value}
use Rattle.card.specs.declared.Meaning.{Meaning}
use Rattle.card.specs.declared.Meaning.TheVariants.{TupleByte, ReadOption, WriteOption, ReadRegister, WriteRegister, ReadData, WriteData}
use Rattle.card.specs.Perform.{option_written, plain_core, register_written, perform, plain_written, register_read}
use Rattle.blocks.specs.Alike.{phase_singly, bare, bare_effect}
use Rattle.commands.specs.Table.{command_given}
use Rattle.blocks.proofs.Bare.{quiet, phase_twice, bare_twice, phase_read_bare, phase_written_bare, held_bare}

-- ---- registers and resets

option-bare : (x : Turn) (v : ℕ) (p : Phase) (s : State) (b t k : List ℕ) →
    bare (machine (option_turned x v (phase_singly p) (quiet s)) b t k) ≡ bare (machine (option_turned x v p s) b t k)
unfolding option_turned
option-bare Enter v Idle s b t k = refl
option-bare Enter v (DataIn x) s b t k = refl
option-bare Enter v (DataOut x) s b t k = refl
option-bare Leave v p s b t k = refl
option-bare Stay v p s b t k = rw (phase_twice p)

control_bare : (x : Turn) (masked : Bool) (p : Phase) (s : State) (b t k : List ℕ) →
    bare (machine (control_turned x masked (phase_singly p) (quiet s)) b t k) ≡ bare (machine (control_turned x masked p s) b t k)
unfolding control_turned
control_bare Enter masked Idle s b t k = refl
control_bare Enter masked (DataIn x) s b t k = refl
control_bare Enter masked (DataOut x) s b t k = refl
control_bare Leave masked p s b t k = refl
control_bare Stay masked p s b t k = rw (phase_twice p)

runs-singly : (p : Phase) → runs (phase_singly p) ≡ runs p
runs-singly Idle = refl
runs-singly (DataIn t) = refl
runs-singly (DataOut t) = refl

set_quiet : (r : Register) (v : ℕ) (s : State) → quiet (register_set r v (quiet s)) ≡ quiet (register_set r v s)
unfolding register_set
set_quiet ErrorFeature v s = refl
set_quiet SectorCount v s = refl
set_quiet SectorNumber v s = refl
set_quiet CylinderLow v s = refl
set_quiet CylinderHigh v s = refl
set_quiet DriveHead v s = refl
set_quiet StatusCommand v s = refl
set_quiet AlternateControl v s = refl
set_quiet DriveAddress v s = refl

plain-bare : (r : Register) (v : ℕ) (m : Machine) → bare (plain_written r v (bare m)) ≡ bare (plain_written r v m)
unfolding plain_core
plain-bare r v m = rw (runs-singly m.phase) (go m.state.control.held (runs m.phase))
  where
    go : (h n : Bool) →
        bare (with_core (pick h (core_of (bare m)) (pick n (core_of (bare m)) (core (phase_singly m.phase) (register_set r v (quiet m.state))))) (bare m))
        ≡ bare (with_core (pick h (core_of m) (pick n (core_of m) (core m.phase (register_set r v m.state)))) m)
    go true n = bare_twice m
    go false true = bare_twice m
    go false false = rw (phase_twice m.phase, set_quiet r v m.state)

read_quiet : (r : Register) (s : State) → quiet (after_read r (quiet s)) ≡ quiet (after_read r s)
unfolding after_read
read_quiet ErrorFeature s = refl
read_quiet SectorCount s = refl
read_quiet SectorNumber s = refl
read_quiet CylinderLow s = refl
read_quiet CylinderHigh s = refl
read_quiet DriveHead s = refl
read_quiet StatusCommand s = refl
read_quiet AlternateControl s = refl
read_quiet DriveAddress s = refl

writing_singly : (p : Phase) → writing_bit (phase_singly p) ≡ writing_bit p
writing_singly Idle = refl
writing_singly (DataIn t) = refl
writing_singly (DataOut t) = refl

value_singly : (r : Register) (p : Phase) (s : State) → register_value r (phase_singly p) (quiet s) ≡ register_value r p s
value_singly ErrorFeature p s = refl
value_singly SectorCount p s = refl
value_singly SectorNumber p s = refl
value_singly CylinderLow p s = refl
value_singly CylinderHigh p s = refl
value_singly DriveHead p s = refl
value_singly StatusCommand p s = refl
value_singly AlternateControl p s = refl
value_singly DriveAddress p s = rw (writing_singly p)

register_read_bare : (r : Register) (m : Machine) → bare_effect (effect (register_read r (core_of (bare m))) m.buffer m.store m.marks) ≡ bare_effect (effect (register_read r (core_of m)) m.buffer m.store m.marks)
unfolding value_read
register_read_bare r m = rw (value_singly r m.phase m.state, phase_twice m.phase, read_quiet r m.state)

-- a command starts afresh, and knows neither
command_bare : (held : Bool) (v : ℕ) (m : Machine) → bare (pick held (bare m) (command_given v (bare m))) ≡ bare (pick held m (command_given v m))
unfolding command_given
command_bare true v m = bare_twice m
command_bare false v m = refl

register_written_bare : (r : Register) (v : ℕ) (m : Machine) → bare (register_written r v (bare m)) ≡ bare (register_written r v m)
unfolding register_written
register_written_bare ErrorFeature v m = plain-bare ErrorFeature v m
register_written_bare SectorCount v m = plain-bare SectorCount v m
register_written_bare SectorNumber v m = plain-bare SectorNumber v m
register_written_bare CylinderLow v m = plain-bare CylinderLow v m
register_written_bare CylinderHigh v m = plain-bare CylinderHigh v m
register_written_bare DriveHead v m = plain-bare DriveHead v m
register_written_bare StatusCommand v m = command_bare m.state.control.held v m
register_written_bare AlternateControl v m = control_bare (turn_of m.state.control.held (bit_two v)) (bit_one v) m.phase m.state m.buffer m.store m.marks
register_written_bare DriveAddress v m = plain-bare DriveAddress v m

-- ---- whatever it means

pub perform-bare : (x : Meaning) (m : Machine) → bare_effect (perform x (bare m)) ≡ bare_effect (perform x m)
unfolding perform option_written data_read data_written
perform-bare (Meaning.Refused r) m = ap (refused_with r) (bare_twice m)
perform-bare (TupleByte b) m = ap (accepted b) (bare_twice m)
perform-bare ReadOption m = ap (accepted m.state.option) (bare_twice m)
perform-bare (WriteOption v) m = ap (accepted 0) (option-bare (option_turn v m.state) v m.phase m.state (option_buffer v m.state m.buffer) m.store m.marks)
perform-bare (ReadRegister r) m = register_read_bare r m
perform-bare (WriteRegister r v) m = ap (accepted 0) (register_written_bare r v m)
perform-bare (ReadData port) m = held_bare m.state.control.held (held_value port) m _ _ (phase_read_bare m.phase port m)
perform-bare (WriteData port v) m = held_bare m.state.control.held 0 m _ _ (phase_written_bare m.phase port v m)
