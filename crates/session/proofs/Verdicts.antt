-- Rows 12, 2, 3 and 5 say the same of every access of a run, and with them an access is the card's step.
use Rattle.std.proofs.Common.{◌≡◌, ℕ, ◌*◌, Bool, true, false, eqb, List, length, sym, refl, ap, ◌∙◌, eq-eqb, eqb-true, Ok, Err}
use Rattle.ground.specs.Rows.{first_of}
use Rattle.registers.specs.State.{total_in}
use Rattle.registers.specs.Machine.{Machine}
use Rattle.registers.specs.WellMade.{well_made}
use Rattle.port.specs.Data.{Effect}
use Rattle.card.specs.Access.{Asked, fit_table, verdict_of, Verdict, fit}
use Rattle.card.specs.Perform.{perform}
use Rattle.card.specs.Step.{step, fit_step, by_verdict}
use Rattle.card.proofs.Verdicts.{verdict_step}
use Rattle.kept.specs.Sound.{CountFits, Sound}
use Rattle.kept.proofs.Step.{fit_step_sound}

all_hold : (w s k t : Bool) → fit ≡ first_of (fit_table w s k t) Err fit → (w ≡ true) × (s ≡ true) × (k ≡ true) × (t ≡ true)
all_hold true true true true e = (refl, refl, refl, refl)
all_hold true true true false e = cc
all_hold true true false t e = cc
all_hold true false k t e = cc
all_hold false s k t e = cc

abbrev VerdictIs : Verdict → Machine → List ℕ → Type 0
VerdictIs v m tuples = v ≡ verdict_of m.phase m.state m.store m.marks tuples

fit_sound : (m : Machine) (tuples : List ℕ) → VerdictIs fit m tuples → CountFits m.state → length m.buffer ≡ 512 → Sound m × (length tuples ≡ 256)
unfolding verdict_of
fit_sound m tuples e b l =
    let h = all_hold (well_made m.phase m.state) (eqb (length m.store) (512 * total_in m.state)) (eqb (length m.marks) (total_in m.state)) (eqb (length tuples) 256) e in
    (record { made = h.0; store = eqb-true _ _ h.1; marks = eqb-true _ _ h.2; buffer = l; count = b }, eqb-true _ _ h.3)

sound_fit : (m : Machine) (tuples : List ℕ) → Sound m → length tuples ≡ 256 → VerdictIs fit m tuples
unfolding verdict_of
sound_fit m tuples s t = sym (rw (s.made, eq-eqb _ _ s.store, eq-eqb _ _ s.marks, eq-eqb _ _ t) refl)

verdict_kept : (v : Verdict) (m : Machine) (a : Asked) → VerdictIs v m a.tuples → CountFits m.state → length m.buffer ≡ 512 → VerdictIs v (by_verdict v m a).next a.tuples
unfolding perform
verdict_kept (Ok tt) m a e b l =
    let h = fit_sound m a.tuples e b l in
    sound_fit (fit_step m a).next a.tuples (fit_step_sound m a h.0) h.1
verdict_kept (Err r) m a e b l = e

-- what an access of a run leaves is the card's step, and the verdict stands
pub steady : (v : Verdict) (m : Machine) (a : Asked) (s : Effect) → VerdictIs v m a.tuples → CountFits m.state → length m.buffer ≡ 512 → s ≡ by_verdict v m a →
    (s ≡ step m a) × VerdictIs v s.next a.tuples
steady v m a s e b l f =
    (f ∙ ap (λ (x : Verdict). by_verdict x m a) e ∙ verdict_step m a, rw f (verdict_kept v m a e b l))
