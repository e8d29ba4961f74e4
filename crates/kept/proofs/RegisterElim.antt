-- What a read and a write of a register can leave.
use Prim.Native.Nat.{ℕ}
use mathlib.Core.Bool.{false}
use mathlib.Core.Path.{◌≡◌, refl}
use Rattle.ground.proofs.Picks.{pick-elim}
use Rattle.geometry.specs.declared.Address.{Address}
use Rattle.maps.specs.declared.Register.{Register}
use Rattle.maps.specs.declared.Register.TheVariants.{ErrorFeature, SectorCount, SectorNumber, CylinderLow, CylinderHigh, DriveHead, StatusCommand, AlternateControl, DriveAddress}
use Rattle.registers.specs.declared.State.{State}
use Rattle.registers.specs.declared.Core.{Core}
use Rattle.registers.specs.State.{runs, with_interrupt, with_count, with_address}
use Rattle.registers.specs.Machine.{Machine, core, core_of, with_core}
use Rattle.registers.specs.Resets.{control_written}
use Rattle.registers.specs.Values.{after_read, register_set}
use Rattle.commands.specs.Table.{command_given}
use Rattle.card.specs.Perform.{plain_core, register_written}

-- only Status clears the mark
pub read_elim : (P : State → Type 0) (r : Register) (s : State) → P s → P (with_interrupt false s) → P (after_read r s)
unfolding after_read
read_elim P ErrorFeature s a b = a
read_elim P SectorCount s a b = a
read_elim P SectorNumber s a b = a
read_elim P CylinderLow s a b = a
read_elim P CylinderHigh s a b = a
read_elim P DriveHead s a b = a
read_elim P StatusCommand s a b = b
read_elim P AlternateControl s a b = a
read_elim P DriveAddress s a b = a

-- a register that is set is Sector Count, or one of the address, or none
pub set-elim : (P : State → Type 0) (r : Register) (v : ℕ) (s : State) → P s → P (with_count v s) → ((a : Address) → P (with_address a s)) → P (register_set r v s)
unfolding register_set
set-elim P ErrorFeature v s a b c = a
set-elim P SectorCount v s a b c = b
set-elim P SectorNumber v s a b c = c _
set-elim P CylinderLow v s a b c = c _
set-elim P CylinderHigh v s a b c = c _
set-elim P DriveHead v s a b c = c _
set-elim P StatusCommand v s a b c = a
set-elim P AlternateControl v s a b c = a
set-elim P DriveAddress v s a b c = a

-- nothing where Device Control holds the card or a transfer runs
pub plain-elim : (P : Core → Type 0) (r : Register) (v : ℕ) (k : Core) → P k →
    (k.state.control.held ≡ false → runs k.phase ≡ false → P (core k.phase (register_set r v k.state))) → P (plain_core r v k)
unfolding plain_core
plain-elim P r v k a f = pick-elim P k.state.control.held _ _ (λ e. a) (λ e. pick-elim P (runs k.phase) _ _ (λ h. a) (f e))

pub written-elim : (P : Machine → Type 0) (r : Register) (v : ℕ) (m : Machine) → P m →
    (m.state.control.held ≡ false → runs m.phase ≡ false → P (with_core (core m.phase (register_set r v m.state)) m)) →
    (r ≡ StatusCommand → m.state.control.held ≡ false → P (command_given v m)) →
    (r ≡ AlternateControl → P (with_core (control_written v m.phase m.state) m)) →
    P (register_written r v m)
unfolding register_written
written-elim P ErrorFeature v m a f g h = plain-elim (λ (k : Core). P (with_core k m)) ErrorFeature v (core_of m) a f
written-elim P SectorCount v m a f g h = plain-elim (λ (k : Core). P (with_core k m)) SectorCount v (core_of m) a f
written-elim P SectorNumber v m a f g h = plain-elim (λ (k : Core). P (with_core k m)) SectorNumber v (core_of m) a f
written-elim P CylinderLow v m a f g h = plain-elim (λ (k : Core). P (with_core k m)) CylinderLow v (core_of m) a f
written-elim P CylinderHigh v m a f g h = plain-elim (λ (k : Core). P (with_core k m)) CylinderHigh v (core_of m) a f
written-elim P DriveHead v m a f g h = plain-elim (λ (k : Core). P (with_core k m)) DriveHead v (core_of m) a f
written-elim P StatusCommand v m a f g h = pick-elim P m.state.control.held _ _ (λ e. a) (g refl)
written-elim P AlternateControl v m a f g h = h refl
written-elim P DriveAddress v m a f g h = plain-elim (λ (k : Core). P (with_core k m)) DriveAddress v (core_of m) a f
