-- 01, "Answers", of the doors by value: the two resets' methods give back the card that came, a refused opening the all-zero card.
use Rattle.std.proofs.Common.{Err}
use Prim.Native.Nat.{ℕ}
use mathlib.Core.Path.{◌≡◌, refl, sym, subst}
use mathlib.Core.List.{List}
use Rattle.answers.specs.declared.Refusal.{Refusal}
use Rattle.geometry.specs.declared.Geometry.{Geometry}
use Rattle.card.specs.declared.Card.{Card}
use Rattle.card.specs.declared.Answer.{Answer}
use Rattle.card.specs.Opening.{opened}
use Rattle.card.specs.Doors.{option_answered, control_answered}
use Rattle.kept.proofs.DoorElim.{option-elim, control_elim}
use Rattle.kept.proofs.Opening.{opening-refused}
use Rattle.laws.specs.Unchanged.{SameCard, NoCard}
use Rattle.answers.proofs.Outcomes.{accepts_not}

-- where the answer is a refusal, P holds of it
abbrev Where : (Answer → Type 0) → Answer → Type 0
Where P a = (r : Refusal) → a.outcome ≡ Err r → P a

pub option-unchanged : (v : ℕ) (c : Card) (r : Refusal) → (option_answered v c).outcome ≡ Err r → SameCard c (option_answered v c)
option-unchanged v c = option-elim (Where (SameCard c)) v c (λ s r e. (refl, refl, refl)) (λ m i r e. accepts_not 0 r e)

pub control_unchanged : (v : ℕ) (c : Card) (r : Refusal) → (control_answered v c).outcome ≡ Err r → SameCard c (control_answered v c)
control_unchanged v c = control_elim (Where (SameCard c)) v c (λ s r e. (refl, refl, refl)) (λ r e. accepts_not 0 r e)

pub opening-unchanged : (g : Geometry) (mode : ℕ) (store marks tuples : List ℕ) (r : Refusal) → (opened g mode store marks tuples).outcome ≡ Err r → NoCard (opened g mode store marks tuples)
opening-unchanged g mode store marks tuples r e = subst NoCard (sym (opening-refused g mode store marks tuples r e)) (refl, refl, refl)
