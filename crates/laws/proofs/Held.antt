-- "Device Control bit 2 set: …, reads of all offsets give 80H, data words 8080H, writes to offsets other than E have no effect; the Configuration
-- Option Register works on": its laws (Turns.antt, LastValue.antt) ask for no hold.
use Prim.Native.Nat.{ℕ}
use mathlib.Core.Path.{◌≡◌, refl, sym, ap, ◌∙◌}
use mathlib.Core.Bool.{true, true≢false}
use Rattle.maps.specs.declared.Port.{Port}
use Rattle.maps.specs.declared.Port.TheVariants.{Even, Odd, Word}
use Rattle.maps.specs.declared.Register.{Register}
use Rattle.maps.specs.declared.Register.TheVariants.{ErrorFeature, SectorCount, SectorNumber, CylinderLow, CylinderHigh, DriveHead, StatusCommand, AlternateControl, DriveAddress}
use Rattle.registers.specs.declared.Phase.{Phase}
use Rattle.registers.specs.declared.State.{State}
use Rattle.registers.specs.Machine.{Machine}
use Rattle.registers.specs.Values.{value_read, after_read}
use Rattle.port.specs.Data.{accepted, data_read, data_written}
use Rattle.card.specs.declared.Meaning.{Meaning}
use Rattle.card.specs.declared.Meaning.TheVariants.{ReadRegister, WriteRegister, ReadData, WriteData}
use Rattle.card.specs.Access.{Asked, meaning}
use Rattle.card.specs.Perform.{perform}
use Rattle.card.specs.Step.{step}
use Rattle.kept.proofs.RegisterElim.{written-elim}
use Rattle.laws.specs.Holds.{lost_in_hold, byte_in_hold, data_in_hold, after_reading}
use Rattle.laws.proofs.Meant.{step_by}

-- ---- reads

-- reading a register leaves all but the interrupt mark, in a hold and outside it
pub meant_read : (r : Register) (m : Machine) → (perform (ReadRegister r) m).next ≡ after_reading r m
unfolding perform after_read
meant_read ErrorFeature m = refl
meant_read SectorCount m = refl
meant_read SectorNumber m = refl
meant_read CylinderLow m = refl
meant_read CylinderHigh m = refl
meant_read DriveHead m = refl
meant_read StatusCommand m = refl
meant_read AlternateControl m = refl
meant_read DriveAddress m = refl

register_in_hold : (r : Register) (p : Phase) (s : State) → s.control.held ≡ true → value_read r p s ≡ byte_in_hold
unfolding value_read
register_in_hold r p s h = rw h

pub meant_held_read : (r : Register) (m : Machine) → m.state.control.held ≡ true → perform (ReadRegister r) m ≡ accepted byte_in_hold (after_reading r m)
unfolding perform
meant_held_read r m h = ap (λ (v : ℕ). accepted v (perform (ReadRegister r) m).next) (register_in_hold r m.phase m.state h) ∙ ap (accepted byte_in_hold) (meant_read r m)

pub meant_held_data_read : (port : Port) (m : Machine) → m.state.control.held ≡ true → perform (ReadData port) m ≡ accepted (data_in_hold port) m
unfolding perform data_read
meant_held_data_read Even m h = rw h
meant_held_data_read Odd m h = rw h
meant_held_data_read Word m h = rw h

pub register_read_lem : (m : Machine) (a : Asked) (r : Register) → meaning m a ≡ ReadRegister r → (step m a).next ≡ after_reading r m
unfolding step
register_read_lem m a r e = ap (λ (x : Meaning). (perform x m).next) e ∙ meant_read r m

pub held_read : (m : Machine) (a : Asked) (r : Register) → meaning m a ≡ ReadRegister r → m.state.control.held ≡ true → step m a ≡ accepted byte_in_hold (after_reading r m)
held_read m a r e h = step_by m a (ReadRegister r) (accepted byte_in_hold (after_reading r m)) e (meant_held_read r m h)

pub held_data_read : (m : Machine) (a : Asked) (port : Port) → meaning m a ≡ ReadData port → m.state.control.held ≡ true → step m a ≡ accepted (data_in_hold port) m
held_data_read m a port e h = step_by m a (ReadData port) (accepted (data_in_hold port) m) e (meant_held_data_read port m h)

-- ---- writes

pub meant_held_write : (r : Register) (v : ℕ) (m : Machine) → m.state.control.held ≡ true → lost_in_hold r ≡ true → perform (WriteRegister r v) m ≡ accepted 0 m
unfolding perform
meant_held_write r v m h b =
    ap (accepted 0)
    (written-elim (λ (n : Machine). n ≡ m) r v m refl
    (λ e f. absurd (true≢false (sym h ∙ e)))
    (λ c e. absurd (true≢false (sym h ∙ e)))
    (λ c. absurd (true≢false (sym b ∙ ap lost_in_hold c))))

pub meant_held_data_write : (port : Port) (v : ℕ) (m : Machine) → m.state.control.held ≡ true → perform (WriteData port v) m ≡ accepted 0 m
unfolding perform data_written
meant_held_data_write port v m h = rw h

pub held_write : (m : Machine) (a : Asked) (r : Register) (v : ℕ) → meaning m a ≡ WriteRegister r v → m.state.control.held ≡ true → lost_in_hold r ≡ true →
    step m a ≡ accepted 0 m
held_write m a r v e h b = step_by m a (WriteRegister r v) (accepted 0 m) e (meant_held_write r v m h b)

pub held_data_write : (m : Machine) (a : Asked) (port : Port) (v : ℕ) → meaning m a ≡ WriteData port v → m.state.control.held ≡ true → step m a ≡ accepted 0 m
held_data_write m a port v e h = step_by m a (WriteData port v) (accepted 0 m) e (meant_held_data_write port v m h)
