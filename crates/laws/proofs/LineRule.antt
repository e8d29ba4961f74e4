-- The line in each answer is that of the card in the answer: after the access, and also where it is refused.
use Prim.Native.Nat.{ℕ}
use mathlib.Core.Path.{◌≡◌, refl, sym, ap, ◌∙◌}
use mathlib.Core.Bool.{Bool, true, false, not, ◌&&◌, and-true, and-false}
use mathlib.Core.List.{List}
use Rattle.ground.specs.Choice.{pick}
use Rattle.geometry.specs.declared.Geometry.{Geometry}
use Rattle.registers.specs.declared.State.{State}
use Rattle.registers.specs.State.{line_of}
use Rattle.registers.specs.Machine.{Machine}
use Rattle.registers.specs.Resets.{control_written}
use Rattle.port.specs.Data.{Effect}
use Rattle.card.specs.declared.Card.{Card}
use Rattle.card.specs.declared.Answer.{Answer}
use Rattle.card.specs.Access.{Asked}
use Rattle.card.specs.Step.{step}
use Rattle.card.specs.Opening.{opened}
use Rattle.card.specs.Doors.{answered, option_answered, control_answered}
use Rattle.kept.proofs.DoorElim.{option_card, opened-elim, option-elim, control_elim}
use Rattle.laws.specs.Line.{line_up}

by_mask : (masked interrupt : Bool) → pick masked false interrupt ≡ (interrupt && not masked)
by_mask true interrupt = sym (and-false interrupt)
by_mask false interrupt = sym (and-true interrupt)

line_of_lem : (s : State) → line_of s ≡ line_up s
line_of_lem s = by_mask s.control.masked s.interrupt

-- of an access, by what `Card::access` promises of its answer
pub line_rule : (m : Machine) (a : Asked) (r : Answer) (store marks : List ℕ) → answered r store marks ≡ step m a → r.line ≡ line_of r.card.state →
    r.line ≡ line_up (step m a).next.state
line_rule m a r store marks e l = l ∙ line_of_lem r.card.state ∙ ap (λ (x : Effect). line_up x.next.state) e

abbrev Told : Answer → Type 0
Told a = a.line ≡ line_up a.card.state

pub line-option : (v : ℕ) (c : Card) → (option_answered v c).line ≡ line_up (option_answered v c).card.state
line-option v c = option-elim Told v c (λ r. line_of_lem c.state) (λ m i. line_of_lem (option_card v c).state)

pub line_control : (v : ℕ) (c : Card) → (control_answered v c).line ≡ line_up (control_answered v c).card.state
line_control v c = control_elim Told v c (λ r. line_of_lem c.state) (line_of_lem (control_written v c.phase c.state).state)

pub line-opened : (g : Geometry) (mode : ℕ) (store marks tuples : List ℕ) → (opened g mode store marks tuples).line ≡ line_up (opened g mode store marks tuples).card.state
line-opened g mode store marks tuples = opened-elim Told g mode store marks tuples refl refl refl refl refl (λ f s k. refl)
