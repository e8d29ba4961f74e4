-- The two resets, each as one equation of the whole machine: entered, left, or bit 7 and bit 2 as they were. None asks what else the card does: the
-- Configuration Option Register "works on" in a Device Control hold.
use Prim.Native.Nat.{ℕ}
use mathlib.Core.Path.{◌≡◌, refl}
use mathlib.Core.Bool.{Bool, true, false}
use Rattle.ground.specs.Choice.{pick}
use Rattle.maps.specs.declared.Register.TheVariants.{AlternateControl}
use Rattle.registers.specs.declared.Phase.{Phase}
use Rattle.registers.specs.declared.Phase.TheVariants.{Idle, DataIn, DataOut}
use Rattle.laws.specs.Bits.{status_idle, bit_seven, bit_two}
use Rattle.registers.specs.Machine.{Machine}
use Rattle.registers.specs.State.{runs}
use Rattle.registers.specs.Resets.{rest_status, turn_of, option_turned, buffer_turned, control_turned}
use Rattle.port.specs.Data.{accepted}
use Rattle.card.specs.declared.Meaning.TheVariants.{WriteOption, WriteRegister}
use Rattle.card.specs.Access.{Asked, meaning}
use Rattle.card.specs.Perform.{option_written, register_written, perform}
use Rattle.card.specs.Step.{step}
use Rattle.laws.specs.Turns.{sreset_entered, sreset_left, setting_taken, control_entered, control_left, mask_taken}
use Rattle.laws.proofs.Meant.{step_by}

-- "A reset that ends one leaves Status 50H."
rest_status_lem : (p : Phase) (status : ℕ) → rest_status p status ≡ pick (runs p) status_idle status
rest_status_lem Idle status = refl
rest_status_lem (DataIn t) status = refl
rest_status_lem (DataOut t) status = refl

-- ---- SRESET

pub meant_sreset_entered : (v : ℕ) (m : Machine) → bit_seven m.state.option ≡ false → bit_seven v ≡ true → perform (WriteOption v) m ≡ accepted 0 (sreset_entered v m)
unfolding perform option_written turn_of option_turned buffer_turned
meant_sreset_entered v m e f = rw (e, f, ← rest_status_lem m.phase m.state.registers.status)

pub meant_sreset_left : (v : ℕ) (m : Machine) → bit_seven m.state.option ≡ true → bit_seven v ≡ false → perform (WriteOption v) m ≡ accepted 0 (sreset_left v m)
unfolding perform option_written turn_of option_turned buffer_turned
meant_sreset_left v m e f = rw (e, f)

-- the two bits 7, before and now, are the same
set_by : (b : Bool) (v : ℕ) (m : Machine) → bit_seven m.state.option ≡ b → bit_seven v ≡ b → perform (WriteOption v) m ≡ accepted 0 (setting_taken v m)
unfolding perform option_written turn_of option_turned buffer_turned
set_by true v m e f = rw (e, f)
set_by false v m e f = rw (e, f)

pub meant_setting : (v : ℕ) (m : Machine) → bit_seven v ≡ bit_seven m.state.option → perform (WriteOption v) m ≡ accepted 0 (setting_taken v m)
meant_setting v m e = set_by (bit_seven m.state.option) v m refl e

pub sreset_entered_lem : (m : Machine) (a : Asked) (v : ℕ) → meaning m a ≡ WriteOption v → bit_seven m.state.option ≡ false → bit_seven v ≡ true →
    step m a ≡ accepted 0 (sreset_entered v m)
sreset_entered_lem m a v x e f = step_by m a (WriteOption v) (accepted 0 (sreset_entered v m)) x (meant_sreset_entered v m e f)

pub sreset_left_lem : (m : Machine) (a : Asked) (v : ℕ) → meaning m a ≡ WriteOption v → bit_seven m.state.option ≡ true → bit_seven v ≡ false →
    step m a ≡ accepted 0 (sreset_left v m)
sreset_left_lem m a v x e f = step_by m a (WriteOption v) (accepted 0 (sreset_left v m)) x (meant_sreset_left v m e f)

pub setting_taken_lem : (m : Machine) (a : Asked) (v : ℕ) → meaning m a ≡ WriteOption v → bit_seven v ≡ bit_seven m.state.option → step m a ≡ accepted 0 (setting_taken v m)
setting_taken_lem m a v x e = step_by m a (WriteOption v) (accepted 0 (setting_taken v m)) x (meant_setting v m e)

-- ---- Device Control

pub meant_control_entered : (v : ℕ) (m : Machine) → m.state.control.held ≡ false → bit_two v ≡ true → perform (WriteRegister AlternateControl v) m ≡ accepted 0 (control_entered v m)
unfolding perform register_written turn_of control_turned
meant_control_entered v m e f = rw (e, f, ← rest_status_lem m.phase m.state.registers.status)

pub meant_control_left : (v : ℕ) (m : Machine) → m.state.control.held ≡ true → bit_two v ≡ false → perform (WriteRegister AlternateControl v) m ≡ accepted 0 (control_left v m)
unfolding perform register_written turn_of control_turned
meant_control_left v m e f = rw (e, f)

mask_by : (b : Bool) (v : ℕ) (m : Machine) → m.state.control.held ≡ b → bit_two v ≡ b → perform (WriteRegister AlternateControl v) m ≡ accepted 0 (mask_taken v m)
unfolding perform register_written turn_of control_turned
mask_by true v m e f = rw (e, f)
mask_by false v m e f = rw (e, f)

pub meant_mask : (v : ℕ) (m : Machine) → bit_two v ≡ m.state.control.held → perform (WriteRegister AlternateControl v) m ≡ accepted 0 (mask_taken v m)
meant_mask v m e = mask_by m.state.control.held v m refl e

pub control_entered_lem : (m : Machine) (a : Asked) (v : ℕ) → meaning m a ≡ WriteRegister AlternateControl v → m.state.control.held ≡ false → bit_two v ≡ true →
    step m a ≡ accepted 0 (control_entered v m)
control_entered_lem m a v x e f = step_by m a (WriteRegister AlternateControl v) (accepted 0 (control_entered v m)) x (meant_control_entered v m e f)

pub control_left_lem : (m : Machine) (a : Asked) (v : ℕ) → meaning m a ≡ WriteRegister AlternateControl v → m.state.control.held ≡ true → bit_two v ≡ false →
    step m a ≡ accepted 0 (control_left v m)
control_left_lem m a v x e f = step_by m a (WriteRegister AlternateControl v) (accepted 0 (control_left v m)) x (meant_control_left v m e f)

pub mask_taken_lem : (m : Machine) (a : Asked) (v : ℕ) → meaning m a ≡ WriteRegister AlternateControl v → bit_two v ≡ m.state.control.held → step m a ≡ accepted 0 (mask_taken v m)
mask_taken_lem m a v x e = step_by m a (WriteRegister AlternateControl v) (accepted 0 (mask_taken v m)) x (meant_mask v m e)
