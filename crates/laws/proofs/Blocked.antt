-- "While DRQ is set, writes to 1..6 and D have no effect."; "F Drive Address (writes have no effect)".
use Prim.Native.Nat.{ℕ}
use mathlib.Core.Path.{◌≡◌, refl, sym, ap, ◌∙◌}
use mathlib.Core.Bool.{true, true≢false}
use Rattle.maps.specs.declared.Register.{Register}
use Rattle.maps.specs.declared.Register.TheVariants.{DriveAddress}
use Rattle.registers.specs.declared.Core.{Core}
use Rattle.registers.specs.Machine.{Machine, core_of, with_core}
use Rattle.registers.specs.Values.{register_set}
use Rattle.registers.specs.WellMade.{well_made}
use Rattle.port.specs.Data.{accepted}
use Rattle.card.specs.declared.Meaning.TheVariants.{WriteRegister}
use Rattle.card.specs.Access.{Asked, meaning}
use Rattle.card.specs.Perform.{register_written, perform}
use Rattle.card.specs.Step.{step}
use Rattle.kept.proofs.RegisterElim.{plain-elim, written-elim}
use Rattle.laws.specs.Bits.{drq}
use Rattle.laws.specs.Holds.{blocked}
use Rattle.laws.proofs.StatusBits.{drq-runs}
use Rattle.laws.proofs.Meant.{step_by, well_meant}

-- of a well-made card, whose DRQ is a running transfer
pub meant_blocked : (r : Register) (v : ℕ) (m : Machine) → well_made m.phase m.state ≡ true → drq m.state.registers.status ≡ true → blocked r ≡ true →
    perform (WriteRegister r v) m ≡ accepted 0 m
unfolding perform
meant_blocked r v m w d b =
    ap (accepted 0)
    (written-elim (λ (n : Machine). n ≡ m) r v m refl
    (λ e f. absurd (true≢false (sym d ∙ drq-runs m.phase m.state w ∙ f)))
    (λ c e. absurd (true≢false (sym b ∙ ap blocked c)))
    (λ c. absurd (true≢false (sym b ∙ ap blocked c))))

-- the access is accepted, and leaves the whole machine: phase, state, buffer, store, marks
pub blocked_write : (m : Machine) (a : Asked) (r : Register) (v : ℕ) → meaning m a ≡ WriteRegister r v → blocked r ≡ true → drq m.state.registers.status ≡ true →
    step m a ≡ accepted 0 m
blocked_write m a r v e b d =
    step_by m a (WriteRegister r v) (accepted 0 m) e (meant_blocked r v m (well_meant m a (WriteRegister r v) e refl) d b)

-- of every card, at rest or not, held or not
pub meant_drive_address : (v : ℕ) (m : Machine) → perform (WriteRegister DriveAddress v) m ≡ accepted 0 m
unfolding perform register_written register_set
meant_drive_address v m = ap (λ (k : Core). accepted 0 (with_core k m)) (plain-elim (λ (k : Core). k ≡ core_of m) DriveAddress v (core_of m) refl (λ e h. refl))

pub drive_address_write : (m : Machine) (a : Asked) (v : ℕ) → meaning m a ≡ WriteRegister DriveAddress v → step m a ≡ accepted 0 m
drive_address_write m a v e = step_by m a (WriteRegister DriveAddress v) (accepted 0 m) e (meant_drive_address v m)
