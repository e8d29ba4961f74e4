-- An answer that is as defined says what the definition says.
use mathlib.Core.Path.{◌≡◌, ap}
use Rattle.answers.specs.Answers.{Says}
use Rattle.answers.proofs.Outcomes.{says}
use Rattle.card.specs.declared.Answer.{Answer}

pub said : (a b : Answer) → a ≡ b → (a ≡ b) × Says a.outcome b.outcome
said a b e = (e, says _ _ (ap (λ (x : Answer). x.outcome) e))
