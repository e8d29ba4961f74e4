-- An access by what it means: a law of `perform` is one of `step`.
use mathlib.Core.Path.{◌≡◌, ap, ◌∙◌}
use mathlib.Core.Bool.{true, false}
use Rattle.registers.specs.Machine.{Machine}
use Rattle.registers.specs.WellMade.{well_made}
use Rattle.port.specs.Data.{Effect}
use Rattle.card.specs.declared.Meaning.{Meaning}
use Rattle.card.specs.Access.{Asked, meaning}
use Rattle.card.specs.Perform.{perform}
use Rattle.card.specs.Step.{step}
use Rattle.kept.proofs.Fit.{means_refusal, lent_facts}

pub step_as : (m : Machine) (a : Asked) (x : Meaning) → meaning m a ≡ x → step m a ≡ perform x m
unfolding step
step_as m a x e = ap (λ (k : Meaning). perform k m) e

pub step_by : (m : Machine) (a : Asked) (x : Meaning) (y : Effect) → meaning m a ≡ x → perform x m ≡ y → step m a ≡ y
step_by m a x y e f = step_as m a x e ∙ f

-- what is no refusal is meant to a well-made card
pub well_meant : (m : Machine) (a : Asked) (x : Meaning) → meaning m a ≡ x → means_refusal x ≡ false → well_made m.phase m.state ≡ true
well_meant m a x e n = (lent_facts m a x n e).0
