-- What the bits of Status say of a well-made card: "Status is 58H exactly while a transfer runs, else 50H, 51H or 71H".
use Prim.Native.Nat.{ℕ}
use mathlib.Core.Path.{◌≡◌, refl, sym, ap, subst, ◌∙◌}
use mathlib.Core.Bool.{Bool, true, false, true≢false}
use lib.Dec.{eqb}
use borrow.Author.Tests.{eqb-true}
use Rattle.ground.specs.Choice.{pick}
use Rattle.ground.proofs.Picks.{pick-elim, un_not}
use Rattle.answers.specs.Answers.{outcome_value}
use Rattle.maps.specs.declared.Register.TheVariants.{StatusCommand}
use Rattle.registers.specs.declared.Phase.{Phase}
use Rattle.registers.specs.declared.Phase.TheVariants.{Idle, DataIn, DataOut}
use Rattle.registers.specs.declared.State.{State}
use Rattle.laws.specs.Bits.{status_idle, status_data, status_error, status_write_fault, bsy, rdy, dwf, dsc, drq, err}
use Rattle.registers.specs.State.{sreset_in, runs}
use Rattle.registers.specs.Machine.{Machine}
use Rattle.registers.specs.WellMade.{at_rest, status_fits, in_reset, hold_fits, well_made}
use Rattle.registers.specs.Values.{value_read}
use Rattle.card.specs.declared.Meaning.{Meaning}
use Rattle.card.specs.declared.Meaning.TheVariants.{ReadRegister}
use Rattle.card.specs.Access.{Asked, meaning}
use Rattle.card.specs.Perform.{perform}
use Rattle.card.specs.Step.{step}
use Rattle.kept.proofs.Registers.{apart}
use Rattle.laws.specs.Coded.{in_error}
use Rattle.laws.proofs.Meant.{well_meant}

-- what holds of each of the four, with whether a transfer runs, holds of Status
at_rest_lem : (P : ℕ → Type 0) (status : ℕ) → at_rest status ≡ true → P status_idle → P status_error → P status_write_fault → P status
unfolding at_rest
at_rest_lem P status h a b c =
    pick-elim (λ (t : Bool). t ≡ true → P status) (eqb status status_idle) _ _
    (λ e i. subst P (sym (eqb-true status status_idle e)) a)
    (λ n. pick-elim (λ (t : Bool). t ≡ true → P status) (eqb status status_error) _ _
    (λ e i. subst P (sym (eqb-true status status_error e)) b)
    (λ n i. subst P (sym (eqb-true status status_write_fault i)) c))
    h

status_elim : (P : ℕ → Bool → Type 0) (p : Phase) (status : ℕ) → status_fits p status ≡ true → P status_idle false → P status_data true → P status_error false → P status_write_fault false → P status (runs p)
unfolding status_fits
status_elim P Idle status h a d b c = at_rest_lem (λ (n : ℕ). P n false) status h a b c
status_elim P (DataIn t) status h a d b c = subst (λ (n : ℕ). P n true) (sym (eqb-true status status_data h)) d
status_elim P (DataOut t) status h a d b c = subst (λ (n : ℕ). P n true) (sym (eqb-true status status_data h)) d

made-elim : (P : ℕ → Bool → Type 0) (p : Phase) (s : State) → well_made p s ≡ true → P status_idle false → P status_data true → P status_error false → P status_write_fault false → P s.registers.status (runs p)
made-elim P p s e = status_elim P p s.registers.status (apart p s e).1.0

-- DRQ is set exactly while a transfer runs
pub drq-runs : (p : Phase) (s : State) → well_made p s ≡ true → drq s.registers.status ≡ runs p
drq-runs p s e = made-elim (λ (n : ℕ) (b : Bool). drq n ≡ b) p s e refl refl refl refl

-- ERR in "error 51H, write fault 71H", and DWF in the latter
pub err_error : (p : Phase) (s : State) → well_made p s ≡ true → err s.registers.status ≡ in_error s.registers.status
err_error p s e = made-elim (λ (n : ℕ) (b : Bool). err n ≡ in_error n) p s e refl refl refl refl

pub dwf_fault : (p : Phase) (s : State) → well_made p s ≡ true → dwf s.registers.status ≡ eqb s.registers.status status_write_fault
dwf_fault p s e = made-elim (λ (n : ℕ) (b : Bool). dwf n ≡ eqb n status_write_fault) p s e refl refl refl refl

-- the others stay
pub others_stay : (p : Phase) (s : State) → well_made p s ≡ true →
    (bsy s.registers.status ≡ false) × (rdy s.registers.status ≡ true) × (dsc s.registers.status ≡ true)
others_stay p s e =
    made-elim (λ (n : ℕ) (b : Bool). (bsy n ≡ false) × (rdy n ≡ true) × (dsc n ≡ true)) p s e (refl, refl, refl) (refl, refl, refl) (refl, refl, refl) (refl, refl, refl)

-- a host sees it so: no transfer runs in a held reset, where Status reads 80H
held_rests : (p : Phase) (b : Bool) → hold_fits p b ≡ true → b ≡ true → runs p ≡ false
unfolding hold_fits
held_rests Idle b h e = refl
held_rests (DataIn t) b h e = absurd (true≢false (sym e ∙ un_not b _ h))
held_rests (DataOut t) b h e = absurd (true≢false (sym e ∙ un_not b _ h))

held_by : (a b : Bool) → b ≡ true → pick a true b ≡ true
held_by true b e = refl
held_by false b e = e

drq_value : (p : Phase) (s : State) → well_made p s ≡ true → drq (value_read StatusCommand p s) ≡ runs p
unfolding value_read in_reset
drq_value p s e =
    pick-elim (λ (n : ℕ). drq n ≡ runs p) s.control.held _ _
    (λ h. sym (held_rests p (in_reset s) (apart p s e).1.1 (held_by (sreset_in s.option) s.control.held h)))
    (λ h. drq-runs p s e)

pub meant_drq : (m : Machine) → well_made m.phase m.state ≡ true → drq (outcome_value (perform (ReadRegister StatusCommand) m).outcome) ≡ runs m.phase
unfolding perform
meant_drq m w = drq_value m.phase m.state w

pub drq_read : (m : Machine) (a : Asked) → meaning m a ≡ ReadRegister StatusCommand → drq (outcome_value (step m a).outcome) ≡ runs m.phase
unfolding step
drq_read m a e =
    ap (λ (x : Meaning). drq (outcome_value (perform x m).outcome)) e ∙ meant_drq m (well_meant m a (ReadRegister StatusCommand) e refl)
