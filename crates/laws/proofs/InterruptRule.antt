-- 01, "Interrupt mark": after every access the mark is set by what sets it, or stays where nothing clears it.
use Prim.Native.Nat.{ℕ}
use mathlib.Core.Path.{◌≡◌, refl, sym}
use mathlib.Core.Bool.{Bool, true, false, not, ◌&&◌, ◌||◌, and-true, and-false}
use Rattle.ground.specs.Choice.{pick}
use Rattle.maps.specs.declared.Register.{Register}
use Rattle.maps.specs.declared.Register.TheVariants.{ErrorFeature, SectorCount, SectorNumber, CylinderLow, CylinderHigh, DriveHead, StatusCommand, AlternateControl, DriveAddress}
use Rattle.registers.specs.declared.Phase.{Phase}
use Rattle.registers.specs.declared.State.{State}
use Rattle.registers.specs.declared.Core.{Core}
use Rattle.registers.specs.State.{sreset_in}
use Rattle.registers.specs.Machine.{Machine, core_of}
use Rattle.registers.specs.WellMade.{well_made}
use Rattle.registers.specs.Values.{after_read}
use Rattle.registers.specs.Resets.{turn_of, option_turned, bit_two, bit_one, control_turned}
use Rattle.commands.specs.Table.{command_given}
use Rattle.card.specs.declared.Meaning.{Meaning}
use Rattle.card.specs.declared.Meaning.TheVariants.{TupleByte, ReadOption, WriteOption, ReadRegister, WriteRegister, ReadData, WriteData}
use Rattle.card.specs.Access.{Asked, decided, meaning}
use Rattle.card.specs.Perform.{option_written, plain_core, register_written, perform}
use Rattle.card.specs.Step.{step}
use Rattle.kept.proofs.Registers.{apart}
use Rattle.kept.proofs.Decided.{meaning-elim}
use Rattle.kept.proofs.RegisterElim.{set-elim, plain-elim}
use Rattle.laws.specs.Interrupt.{differ, sets, clears, InterruptRule}
use Rattle.laws.specs.Acts.{StatusRead, NoMatter, read_act, write_act, act_of}
use Rattle.laws.proofs.InterruptLaws.{interrupt_gone, no_matter}
use Rattle.laws.proofs.InterruptEnds.{commanded}
use Rattle.laws.proofs.InterruptData.{StatusAndLoadFit, data_read_lem, data_written_lem}

-- ---- the resets: was the card held, and is the bit set now

option_turned_lem : (was now : Bool) (v : ℕ) (p : Phase) (s : State) → (option_turned (turn_of was now) v p s).state.interrupt ≡ (false || (s.interrupt && not (differ now was)))
unfolding turn_of option_turned
option_turned_lem false true v p s = sym (and-false s.interrupt)
option_turned_lem true false v p s = sym (and-false s.interrupt)
option_turned_lem false false v p s = sym (and-true s.interrupt)
option_turned_lem true true v p s = sym (and-true s.interrupt)

control_turned_lem : (was now masked : Bool) (p : Phase) (s : State) → (control_turned (turn_of was now) masked p s).state.interrupt ≡ (false || (s.interrupt && not (differ now was)))
unfolding turn_of control_turned
control_turned_lem false true masked p s = sym (and-false s.interrupt)
control_turned_lem true false masked p s = sym (and-false s.interrupt)
control_turned_lem false false masked p s = sym (and-true s.interrupt)
control_turned_lem true true masked p s = sym (and-true s.interrupt)

-- ---- registers

register_read_lem : (r : Register) (s : State) → InterruptRule (read_act r) s (after_read r s)
unfolding after_read sets clears
register_read_lem ErrorFeature s = no_matter s s refl
register_read_lem SectorCount s = no_matter s s refl
register_read_lem SectorNumber s = no_matter s s refl
register_read_lem CylinderLow s = no_matter s s refl
register_read_lem CylinderHigh s = no_matter s s refl
register_read_lem DriveHead s = no_matter s s refl
register_read_lem StatusCommand s = interrupt_gone StatusRead s (after_read StatusCommand s) refl refl refl
register_read_lem AlternateControl s = no_matter s s refl
register_read_lem DriveAddress s = no_matter s s refl

plain : (r : Register) (v : ℕ) (k : Core) → InterruptRule NoMatter k.state (plain_core r v k).state
plain r v k = no_matter k.state _
    (plain-elim (λ (x : Core). x.state.interrupt ≡ k.state.interrupt) r v k refl (λ e h. set-elim (λ (x : State). x.interrupt ≡ k.state.interrupt) r v k.state refl refl (λ a. refl)))

command_written : (held : Bool) (v : ℕ) (m : Machine) → InterruptRule (write_act StatusCommand v held) m.state (pick held m (command_given v m)).state
command_written true v m = no_matter m.state m.state refl
command_written false v m = commanded v m

register_written_lem : (r : Register) (v : ℕ) (m : Machine) → InterruptRule (write_act r v m.state.control.held) m.state (register_written r v m).state
unfolding register_written sets clears
register_written_lem ErrorFeature v m = plain ErrorFeature v (core_of m)
register_written_lem SectorCount v m = plain SectorCount v (core_of m)
register_written_lem SectorNumber v m = plain SectorNumber v (core_of m)
register_written_lem CylinderLow v m = plain CylinderLow v (core_of m)
register_written_lem CylinderHigh v m = plain CylinderHigh v (core_of m)
register_written_lem DriveHead v m = plain DriveHead v (core_of m)
register_written_lem StatusCommand v m = command_written m.state.control.held v m
register_written_lem AlternateControl v m = control_turned_lem m.state.control.held (bit_two v) (bit_one v) m.phase m.state
register_written_lem DriveAddress v m = plain DriveAddress v (core_of m)

-- ---- every access

ruled : (x : Meaning) (m : Machine) → StatusAndLoadFit m.phase m.state → InterruptRule (act_of x (core_of m)) m.state (perform x m).next.state
unfolding perform option_written sets clears
ruled (Meaning.Refused r) m f = no_matter m.state m.state refl
ruled (TupleByte b) m f = no_matter m.state m.state refl
ruled ReadOption m f = no_matter m.state m.state refl
ruled (WriteOption v) m f = option_turned_lem (sreset_in m.state.option) (sreset_in v) v m.phase m.state
ruled (ReadRegister r) m f = register_read_lem r m.state
ruled (WriteRegister r v) m f = register_written_lem r v m
ruled (ReadData port) m f = data_read_lem port m f
ruled (WriteData port v) m f = data_written_lem port v m f

-- of a well-made card
pub meant_interrupt : (x : Meaning) (m : Machine) → well_made m.phase m.state ≡ true → InterruptRule (act_of x (core_of m)) m.state (perform x m).next.state
meant_interrupt x m w = let f = apart m.phase m.state w in ruled x m (f.1.0, f.1.3, f.1.4)

-- of every card: one that is not well made is refused
pub interrupt_rule : (m : Machine) (a : Asked) → InterruptRule (act_of (meaning m a) (core_of m)) m.state (step m a).next.state
unfolding step perform
interrupt_rule m a =
    let z = no_matter m.state m.state refl in
    meaning-elim (λ (x : Meaning). InterruptRule (act_of x (core_of m)) m.state (perform x m).next.state) m a z z z z
    (λ w s k t. meant_interrupt (decided m.state a) m w)
