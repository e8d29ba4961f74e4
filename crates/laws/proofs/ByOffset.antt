-- 01, "Maps", the table of offsets: each register is read and written at its own, in whatever map.
use Rattle.std.proofs.Common.{Some}
use Prim.Native.Nat.{ℕ}
use mathlib.Core.Path.{◌≡◌, refl, sym, ap, ◌∙◌}
use mathlib.Core.Bool.{true, false}
use Rattle.ground.specs.Choice.{pick}
use Rattle.answers.specs.Answers.{refused}
use Rattle.maps.specs.declared.Register.{Register}
use Rattle.maps.specs.declared.Register.TheVariants.{ErrorFeature, SectorCount, SectorNumber, CylinderLow, CylinderHigh, DriveHead, StatusCommand, AlternateControl, DriveAddress}
use Rattle.maps.specs.declared.Target.TheVariants.{Named}
use Rattle.maps.specs.declared.Place.TheVariants.{Bytes}
use Rattle.maps.specs.Places.{register_place}
use Rattle.registers.specs.declared.Phase.{Phase}
use Rattle.registers.specs.declared.Phase.TheVariants.{Idle, DataIn, DataOut}
use Rattle.registers.specs.State.{runs}
use Rattle.registers.specs.Machine.{Machine}
use Rattle.registers.specs.Values.{writing_bit, register_value, value_read, register_set}
use Rattle.port.specs.Data.{accepted}
use Rattle.card.specs.declared.Meaning.TheVariants.{ReadRegister, WriteRegister}
use Rattle.card.specs.Access.{Asked, meaning}
use Rattle.card.specs.Perform.{plain_core, plain_written, register_written, perform}
use Rattle.card.specs.Step.{step}
use Rattle.laws.specs.Bits.{drq}
use Rattle.laws.specs.Holds.{byte_in_hold, offset_of, after_reading}
use Rattle.laws.specs.Turns.{going_on_with}
use Rattle.laws.specs.ByOffset.{Reads, bit_six, ReadTable, Writes, WriteTable}
use Rattle.laws.proofs.StatusBits.{drq-runs}
use Rattle.laws.proofs.Meant.{step_by, well_meant}
use Rattle.laws.proofs.Blocked.{meant_drive_address}
use Rattle.laws.proofs.Held.{meant_read}
use Rattle.laws.proofs.ByAddress.{means_register_read, means_register_written}

-- ---- reads

meant_value : (r : Register) (m : Machine) →
    perform (ReadRegister r) m ≡ accepted (pick m.state.control.held byte_in_hold (register_value r m.phase m.state)) (after_reading r m)
unfolding perform value_read
meant_value r m = ap (accepted (value_read r m.phase m.state)) (meant_read r m)

reads : (m : Machine) (o : ℕ) (r : Register) → register_place o ≡ Bytes (Named r) → Reads m o (register_value r m.phase m.state) (after_reading r m)
reads m o r n a p w f = step_by m a (ReadRegister r) _ (means_register_read m a o r n p w f) (meant_value r m)

bit_six_lem : (p : Phase) → writing_bit p ≡ bit_six p
bit_six_lem Idle = refl
bit_six_lem (DataIn t) = refl
bit_six_lem (DataOut t) = refl

pub offsets_read : (m : Machine) → ReadTable m
unfolding register_place
offsets_read m = (
  reads m 1 ErrorFeature refl,
  reads m 0xD ErrorFeature refl,
  reads m 2 SectorCount refl,
  reads m 3 SectorNumber refl,
  reads m 4 CylinderLow refl,
  reads m 5 CylinderHigh refl,
  reads m 6 DriveHead refl,
  reads m 7 StatusCommand refl,
  reads m 0xE AlternateControl refl,
  rw (← bit_six_lem m.phase) (reads m 0xF DriveAddress refl),
)

-- ---- writes

plain : (r : Register) (v : ℕ) (m : Machine) → m.state.control.held ≡ false → runs m.phase ≡ false → plain_written r v m ≡ going_on_with (register_set r v m.state) m
unfolding plain_core
plain r v m h q = rw (h, q)

writes : (m : Machine) (o : ℕ) (r : Register) → m.state.control.held ≡ false → drq m.state.registers.status ≡ false → register_place o ≡ Bytes (Named r) →
    ((v : ℕ) → register_written r v m ≡ plain_written r v m) → Writes m o (λ v. going_on_with (register_set r v m.state) m)
unfolding perform
writes m o r h d n i a p w f =
    let v = a.access.value in
    let x = means_register_written m a o r n p w f in
    let q : runs m.phase ≡ false = sym (drq-runs m.phase m.state (well_meant m a (WriteRegister r v) x refl)) ∙ d in
    step_by m a (WriteRegister r v) (accepted 0 (going_on_with (register_set r v m.state) m)) x (ap (accepted 0) (i v ∙ plain r v m h q))

-- at every time
pub drive_address_at_f : (m : Machine) → Writes m 0xF (λ v. m)
unfolding register_place
drive_address_at_f m a p w f =
    step_by m a (WriteRegister DriveAddress a.access.value) (accepted 0 m) (means_register_written m a 0xF DriveAddress refl p w f) (meant_drive_address a.access.value m)

-- while DRQ is set: BlockedOffsets.antt; in a hold: HeldOffsets.antt
pub offsets-written : (m : Machine) → m.state.control.held ≡ false → drq m.state.registers.status ≡ false → WriteTable m
unfolding register_place register_written register_set
offsets-written m h d = (
  writes m 1 ErrorFeature h d refl (λ v. refl),
  writes m 0xD ErrorFeature h d refl (λ v. refl),
  writes m 2 SectorCount h d refl (λ v. refl),
  writes m 3 SectorNumber h d refl (λ v. refl),
  writes m 4 CylinderLow h d refl (λ v. refl),
  writes m 5 CylinderHigh h d refl (λ v. refl),
  writes m 6 DriveHead h d refl (λ v. refl),
  writes m 0xF DriveAddress h d refl (λ v. refl),
)

-- what is written at 7 is a command, as demand 3 has it, and what is written at E is Device Control
pub command_at_7 : (m : Machine) (a : Asked) → offset_of m a ≡ Some 7 → a.access.write ≡ true → refused (step m a).outcome ≡ false → meaning m a ≡ WriteRegister StatusCommand a.access.value
unfolding register_place
command_at_7 m a = means_register_written m a 7 StatusCommand refl

pub control_at_e : (m : Machine) (a : Asked) → offset_of m a ≡ Some 0xE → a.access.write ≡ true → refused (step m a).outcome ≡ false → meaning m a ≡ WriteRegister AlternateControl a.access.value
unfolding register_place
control_at_e m a = means_register_written m a 0xE AlternateControl refl
