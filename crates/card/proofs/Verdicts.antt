-- Rows 12, 2, 3 and 5, tried apart, and then the access: that is the card's step.
use Rattle.std.proofs.Common.{Ok, Err}
use mathlib.Core.Path.{◌≡◌, refl, sym, ap, ◌∙◌}
use Rattle.ground.specs.Rows.{first_of}
use Rattle.answers.proofs.Rows.{first_of_lem}
use Rattle.registers.specs.Machine.{Machine}
use Rattle.card.specs.declared.Meaning.{Meaning}
use Rattle.card.specs.Access.{Asked, lent_table, decided, verdict_of, meaning, Verdict}
use Rattle.card.specs.Perform.{perform}
use Rattle.card.specs.Step.{step, fit_step, by_verdict}

-- an access means what these rows say, or else what is decided
pub meaning_as : (m : Machine) (a : Asked) → meaning m a ≡ first_of (lent_table m.phase m.state m.store m.marks a.tuples) Meaning.Refused (decided m.state a)
unfolding meaning decided
meaning_as m a = refl

pub verdict_step : (m : Machine) (a : Asked) → by_verdict (verdict_of m.phase m.state m.store m.marks a.tuples) m a ≡ step m a
unfolding step fit_step verdict_of
verdict_step m a =
    let table = lent_table m.phase m.state m.store m.marks a.tuples in
    first_of_lem (λ (v : Verdict). by_verdict v m a) table Err (Ok tt)
    ∙ sym (ap (λ (k : Meaning). perform k m) (meaning_as m a) ∙ first_of_lem (λ (k : Meaning). perform k m) table Meaning.Refused (decided m.state a))
