-- After every access the Configuration Option and Device Control are what was last written to them; but clearing SRESET clears Device Control too.
use Prim.Native.Nat.{ℕ}
use mathlib.Core.Path.{◌≡◌, refl, ap}
use mathlib.Core.Bool.{Bool, true, false}
use Rattle.ground.specs.Choice.{pick}
use Rattle.ground.proofs.Picks.{pick-elim}
use Rattle.maps.specs.declared.Register.{Register}
use Rattle.maps.specs.declared.Register.TheVariants.{ErrorFeature, SectorCount, SectorNumber, CylinderLow, CylinderHigh, DriveHead, StatusCommand, AlternateControl, DriveAddress}
use Rattle.registers.specs.declared.Phase.{Phase}
use Rattle.registers.specs.declared.State.{State}
use Rattle.registers.specs.Machine.{Machine, core_of}
use Rattle.registers.specs.Resets.{turn_of, option_turned, control_turned}
use Rattle.transfers.specs.Steps.{all_moved}
use Rattle.port.specs.Data.{Effect}
use Rattle.card.specs.declared.Meaning.{Meaning}
use Rattle.card.specs.declared.Meaning.TheVariants.{TupleByte, ReadOption, WriteOption, ReadRegister, WriteRegister, ReadData, WriteData}
use Rattle.card.specs.Access.{Asked, meaning}
use Rattle.card.specs.Perform.{option_written, register_written, perform}
use Rattle.card.specs.Step.{step}
use Rattle.kept.proofs.RegisterElim.{read_elim}
use Rattle.kept.proofs.DataElim.{part_come, data_read_elim, data_written_elim}
use Rattle.laws.specs.Bits.{bit_seven, bit_two, bit_one}
use Rattle.laws.specs.Settings.{settings_of, released, settings_after}
use Rattle.laws.proofs.SettingsKept.{same_settings, plain, load_read_lem, load_written_lem, commanded}

-- was bit 7 set, and is it set now
option_turned_lem : (was now : Bool) (v : ℕ) (p : Phase) (s : State) →
    settings_of (option_turned (turn_of was now) v p s).state ≡ record { option = v; control = pick was (pick now s.control released) s.control }
unfolding turn_of option_turned
option_turned_lem false true v p s = refl
option_turned_lem true false v p s = refl
option_turned_lem false false v p s = refl
option_turned_lem true true v p s = refl

-- did bit 2 hold the card, and is it set now
control_turned_lem : (was now masked : Bool) (p : Phase) (s : State) → s.control.held ≡ was →
    settings_of (control_turned (turn_of was now) masked p s).state ≡ record { option = s.option; control = record { held = now; masked = masked } }
unfolding turn_of control_turned
control_turned_lem false true masked p s e = refl
control_turned_lem true false masked p s e = refl
control_turned_lem false false masked p s e = ap (λ (b : Bool). record { option = s.option; control = record { held = b; masked = masked } }) e
control_turned_lem true true masked p s e = ap (λ (b : Bool). record { option = s.option; control = record { held = b; masked = masked } }) e

register_written_lem : (r : Register) (v : ℕ) (m : Machine) → settings_of (register_written r v m).state ≡ settings_after (WriteRegister r v) m.state
unfolding register_written
register_written_lem ErrorFeature v m = same_settings (plain ErrorFeature v (core_of m))
register_written_lem SectorCount v m = same_settings (plain SectorCount v (core_of m))
register_written_lem SectorNumber v m = same_settings (plain SectorNumber v (core_of m))
register_written_lem CylinderLow v m = same_settings (plain CylinderLow v (core_of m))
register_written_lem CylinderHigh v m = same_settings (plain CylinderHigh v (core_of m))
register_written_lem DriveHead v m = same_settings (plain DriveHead v (core_of m))
register_written_lem StatusCommand v m =
    pick-elim (λ (n : Machine). settings_of n.state ≡ settings_of m.state) m.state.control.held _ _ (λ h. refl) (λ h. commanded v m)
register_written_lem AlternateControl v m = control_turned_lem m.state.control.held (bit_two v) (bit_one v) m.phase m.state refl
register_written_lem DriveAddress v m = same_settings (plain DriveAddress v (core_of m))

pub meant_settings : (x : Meaning) (m : Machine) → settings_of (perform x m).next.state ≡ settings_after x m.state
unfolding perform option_written
meant_settings (Meaning.Refused r) m = refl
meant_settings (TupleByte b) m = refl
meant_settings ReadOption m = refl
meant_settings (WriteOption v) m = option_turned_lem (bit_seven m.state.option) (bit_seven v) v m.phase m.state
meant_settings (ReadRegister r) m = read_elim (λ (x : State). settings_of x ≡ settings_of m.state) r m.state refl refl
meant_settings (WriteRegister r v) m = register_written_lem r v m
meant_settings (ReadData port) m =
    data_read_elim (λ (e : Effect). settings_of e.next.state ≡ settings_of m.state) port m (λ v. refl) refl (λ v part t e. refl) (λ v t e w. refl) (λ v t e. same_settings (load_read_lem t.load (all_moved m)))
meant_settings (WriteData port v) m =
    data_written_elim (λ (e : Effect). settings_of e.next.state ≡ settings_of m.state) port v m refl refl (λ part t e. refl) (λ part t e w. refl)
    (λ part t e. load_written_lem t.load (all_moved (part_come part t v m)))

pub settings_rule : (m : Machine) (a : Asked) → settings_of (step m a).next.state ≡ settings_after (meaning m a) m.state
unfolding step
settings_rule m a = meant_settings (meaning m a) m
