-- 01, "Answers": a refused access has value 0 and changes nothing.
use Rattle.std.proofs.Common.{Err}
use mathlib.Core.Path.{◌≡◌, refl, ap}
use Rattle.answers.specs.declared.Refusal.{Refusal}
use Rattle.answers.specs.Answers.{outcome_value}
use Rattle.registers.specs.Machine.{Machine}
use Rattle.port.specs.Data.{Effect}
use Rattle.card.specs.declared.Meaning.{Meaning}
use Rattle.card.specs.declared.Meaning.TheVariants.{TupleByte, ReadOption, WriteOption, ReadRegister, WriteRegister, ReadData, WriteData}
use Rattle.card.specs.Access.{Asked, meaning}
use Rattle.card.specs.Perform.{perform}
use Rattle.card.specs.Step.{step}
use Rattle.answers.proofs.Outcomes.{accepts_not}
use Rattle.kept.proofs.DataElim.{data_read_elim, data_written_elim}
use Rattle.laws.specs.Unchanged.{Unchanged}

-- where the effect is a refusal, the machine is as it came
abbrev Stays : Machine → Effect → Type 0
Stays m e = (r : Refusal) → e.outcome ≡ Err r → e.next ≡ m

pub meant_refused : (x : Meaning) (m : Machine) (r : Refusal) → (perform x m).outcome ≡ Err r → (perform x m).next ≡ m
unfolding perform
meant_refused (Meaning.Refused x) m r e = refl
meant_refused (TupleByte b) m r e = refl
meant_refused ReadOption m r e = refl
meant_refused (WriteOption v) m r e = accepts_not _ r e
meant_refused (ReadRegister g) m r e = accepts_not _ r e
meant_refused (WriteRegister g v) m r e = accepts_not _ r e
meant_refused (ReadData port) m r e =
    data_read_elim (Stays m) port m (λ v r e. refl) (λ r e. refl) (λ v part t h r e. accepts_not _ r e) (λ v t h w r e. accepts_not _ r e) (λ v t h r e. accepts_not _ r e) r e
meant_refused (WriteData port v) m r e =
    data_written_elim (Stays m) port v m (λ r e. refl) (λ r e. refl) (λ part t h r e. accepts_not _ r e) (λ part t h w r e. accepts_not _ r e) (λ part t h r e. accepts_not _ r e) r e

pub refused-unchanged : (m : Machine) (a : Asked) (r : Refusal) → (step m a).outcome ≡ Err r → Unchanged m (step m a)
unfolding step
refused-unchanged m a r e = (ap outcome_value e, meant_refused (meaning m a) m r e)
