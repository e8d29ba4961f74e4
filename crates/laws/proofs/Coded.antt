-- No error without a code: where a transfer or a Command write ends in error there is a code; and from an opened card on there always is one.
use Prim.Native.Nat.{ℕ}
use mathlib.Core.Path.{◌≡◌, sym, ap, subst, ◌∙◌}
use mathlib.Core.Bool.{false, false≢true}
use mathlib.Core.List.{List, [], ◌∷◌}
use Rattle.geometry.specs.declared.Geometry.{Geometry}
use Rattle.maps.specs.declared.Register.TheVariants.{StatusCommand}
use Rattle.laws.specs.Bits.{status_data}
use Rattle.registers.specs.Machine.{Machine}
use Rattle.registers.specs.Resets.{option_turn, turn_of, bit_two, bit_one}
use Rattle.card.specs.declared.Meaning.{Meaning}
use Rattle.card.specs.declared.Meaning.TheVariants.{WriteRegister}
use Rattle.card.specs.declared.Card.{Card}
use Rattle.card.specs.declared.Answer.{Answer}
use Rattle.card.specs.Access.{Asked, meaning}
use Rattle.card.specs.Perform.{perform}
use Rattle.card.specs.Step.{step, play}
use Rattle.card.specs.Opening.{zero_state, opened}
use Rattle.card.specs.Doors.{machine_of, option_answered, control_answered}
use Rattle.kept.proofs.DoorElim.{opened-elim, option-elim, control_elim}
use Rattle.laws.specs.Coded.{in_error, Coded, AllCoded}
use Rattle.laws.proofs.CodedSteps.{option-coded, control_coded, meant_command_coded, meant_coded}

-- kept by every access
pub coded_kept : (m : Machine) (a : Asked) → Coded m.state → Coded (step m a).next.state
unfolding step
coded_kept m a h = meant_coded (meaning m a) m h

-- a transfer that ends in error has a code, whatever the code was
pub meant_transfer_coded : (x : Meaning) (m : Machine) → m.state.registers.status ≡ status_data → Coded (perform x m).next.state
meant_transfer_coded x m e = meant_coded x m (λ p. absurd (false≢true (sym (ap in_error e) ∙ p)))

pub coded_transfer : (m : Machine) (a : Asked) → m.state.registers.status ≡ status_data → Coded (step m a).next.state
unfolding step
coded_transfer m a e = meant_transfer_coded (meaning m a) m e

-- and so has a Command write that ends in error; a Command write in a Device Control hold has no effect
pub coded_command : (m : Machine) (a : Asked) (v : ℕ) → meaning m a ≡ WriteRegister StatusCommand v → m.state.control.held ≡ false → Coded (step m a).next.state
unfolding step
coded_command m a v e h = subst (λ (k : Meaning). Coded (perform k m).next.state) (sym e) (meant_command_coded v m h)

-- after a list of accesses, and after each of them
coded-played : (l : List Asked) (m : Machine) → Coded m.state → Coded (play m l).last.state × AllCoded (play m l).steps
unfolding play
coded-played [] m h = (h, tt)
coded-played (a ∷ l) m h = let k = coded_kept m a h in let r = coded-played l (step m a).next k in (r.0, (k, r.1))

-- an opened card is in no error, and the all-zero card neither
coded-opened : (g : Geometry) (mode : ℕ) (store marks tuples : List ℕ) → Coded (opened g mode store marks tuples).card.state
coded-opened g mode store marks tuples =
    let no : Coded zero_state = λ e. absurd (false≢true e) in
    opened-elim (λ (a : Answer). Coded a.card.state) g mode store marks tuples no no no no no (λ f s k e. absurd (false≢true e))

-- from an opened card on, Status 51H or 71H always comes with a code; the store and the marks may have changed since the opening
pub coded_ever : (g : Geometry) (mode : ℕ) (store marks tuples store' marks' : List ℕ) (l : List Asked) → AllCoded (play (machine_of (opened g mode store marks tuples).card store' marks') l).steps
coded_ever g mode store marks tuples store' marks' l = (coded-played l (machine_of (opened g mode store marks tuples).card store' marks') (coded-opened g mode store marks tuples)).1

-- the two resets' methods keep it too
pub coded_option : (v : ℕ) (c : Card) → Coded c.state → Coded (option_answered v c).card.state
coded_option v c h =
    option-elim (λ (a : Answer). Coded a.card.state) v c (λ r. h)
    (λ m i. option-coded (option_turn v c.state) v c.phase c.state h)

pub coded_control : (v : ℕ) (c : Card) → Coded c.state → Coded (control_answered v c).card.state
coded_control v c h =
    control_elim (λ (a : Answer). Coded a.card.state) v c (λ r. h)
    (control_coded (turn_of c.state.control.held (bit_two v)) (bit_one v) c.phase c.state h)
