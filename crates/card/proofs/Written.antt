-- A write to a register: Command and Device Control by their tests; each other one changes registers alone, and none where it has no effect.
use Prim.Native.Nat.{ℕ}
use mathlib.Core.Bool.{Bool, true, false}
use mathlib.Core.Path.{◌≡◌, refl, sym, ap}
use Rattle.ground.specs.Choice.{pick}
use Rattle.ground.proofs.Picks.{pick-elim}
use Rattle.maps.specs.declared.Register.{Register}
use Rattle.maps.specs.declared.Register.TheVariants.{ErrorFeature, SectorCount, SectorNumber, CylinderLow, CylinderHigh, DriveHead, StatusCommand, AlternateControl, DriveAddress}
use Rattle.registers.specs.declared.State.{State}
use Rattle.registers.specs.declared.Core.{Core}
use Rattle.registers.specs.State.{runs, with_registers}
use Rattle.registers.specs.Machine.{Machine, core, with_core}
use Rattle.registers.specs.Resets.{control_written}
use Rattle.registers.specs.Values.{register_set}
use Rattle.card.specs.Perform.{is_command, is_control, plain_core, plain_written, register_written}

-- ---- which register it is

abbrev pub chosen_write : Bool → Bool → Register → ℕ → Machine → Machine
chosen_write command control r v m =
    pick command (register_written StatusCommand v m) (pick control (with_core (control_written v m.phase m.state) m) (plain_written r v m))

each_register : (r : Register) (v : ℕ) (m : Machine) → register_written r v m ≡ chosen_write (is_command r) (is_control r) r v m
unfolding register_written
each_register ErrorFeature v m = refl
each_register SectorCount v m = refl
each_register SectorNumber v m = refl
each_register CylinderLow v m = refl
each_register CylinderHigh v m = refl
each_register DriveHead v m = refl
each_register StatusCommand v m = refl
each_register AlternateControl v m = refl
each_register DriveAddress v m = refl

-- by what the two tests say
pub by_tests : (b d : Bool) (r : Register) (v : ℕ) (m : Machine) → is_command r ≡ b → is_control r ≡ d → register_written r v m ≡ chosen_write b d r v m
by_tests b d r v m e f = rw (sym e, sym f) (each_register r v m)

-- ---- what it changes

either : {A : Type 0} (t u : Bool) (x y : A) → pick t x (pick u x y) ≡ pick (pick t true u) x y
either true u x y = refl
either false u x y = refl

-- the two sentences that say where it has no effect, asked as one
pub by_closed : (r : Register) (v : ℕ) (k : Core) → plain_core r v k ≡ pick (pick k.state.control.held true (runs k.phase)) k (core k.phase (register_set r v k.state))
unfolding plain_core
by_closed r v k = either k.state.control.held (runs k.phase) k (core k.phase (register_set r v k.state))

set_only : (r : Register) (v : ℕ) (s : State) → with_registers (register_set r v s).registers s ≡ register_set r v s
unfolding register_set
set_only ErrorFeature v s = refl
set_only SectorCount v s = refl
set_only SectorNumber v s = refl
set_only CylinderLow v s = refl
set_only CylinderHigh v s = refl
set_only DriveHead v s = refl
set_only StatusCommand v s = refl
set_only AlternateControl v s = refl
set_only DriveAddress v s = refl

-- registers alone
pub plain_only : (r : Register) (v : ℕ) (k : Core) → core k.phase (with_registers (plain_core r v k).state.registers k.state) ≡ plain_core r v k
unfolding plain_core
plain_only r v k =
    let P : Core → Type 0 = λ x. core k.phase (with_registers x.state.registers k.state) ≡ x in
    pick-elim P k.state.control.held _ _ (λ e. refl) (λ e. pick-elim P (runs k.phase) _ _ (λ h. refl) (λ h. ap (core k.phase) (set_only r v k.state)))
