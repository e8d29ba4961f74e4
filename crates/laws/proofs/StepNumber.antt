-- 01, "Answers": an access is accepted exactly if its number is 0, since no row has that number.
use Rattle.std.proofs.Common.{Ok, Err}
use mathlib.Core.Path.{◌≡◌, refl, ap}
use mathlib.Core.Bool.{not}
use lib.Dec.{eqb}
use native.Mathlib.Omega.{arith}
use borrow.Author.Tests.{ne_eqb}
use Rattle.answers.specs.declared.Refusal.{Refusal}
use Rattle.answers.proofs.Outcomes.{number_range}
use Rattle.answers.specs.Answers.{number_of, outcome_number, refused, Outcome}
use Rattle.registers.specs.Machine.{Machine}
use Rattle.card.specs.Access.{Asked}
use Rattle.card.specs.Step.{step}

-- of every outcome: an access's, an opening's, a method's
pub outcome_number_lem : (o : Outcome) → eqb (outcome_number o) 0 ≡ not (refused o)
outcome_number_lem (Ok value) = refl
outcome_number_lem (Err r) = ne_eqb (number_of r) 0 (λ e. let h = number_range r in omega (arith, h, e))

pub step_number : (m : Machine) (a : Asked) → eqb (outcome_number (step m a).outcome) 0 ≡ not (refused (step m a).outcome)
step_number m a = outcome_number_lem (step m a).outcome

-- the number of a refused access is that of its row
pub refused_number : (m : Machine) (a : Asked) (r : Refusal) → (step m a).outcome ≡ Err r → outcome_number (step m a).outcome ≡ number_of r
refused_number m a r e = ap outcome_number e
