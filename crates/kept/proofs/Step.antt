-- Every access, accepted or refused, keeps a well-made card well made, and all that is lent as long as it was.
use Rattle.std.proofs.Common.{Err}
use mathlib.Core.Bool.{Bool, true, false}
use mathlib.Core.Path.{◌≡◌, refl, sym, subst}
use mathlib.Core.List.{List, [], ◌∷◌}
use lib.ListN.{length}
use Rattle.answers.specs.declared.Refusal.TheVariants.{NotWellMade}
use Rattle.registers.specs.Machine.{Machine}
use Rattle.registers.specs.WellMade.{well_made}
use Rattle.port.specs.Data.{Effect}
use Rattle.card.specs.Access.{Asked, decided, meaning}
use Rattle.card.specs.Perform.{perform}
use Rattle.card.specs.Step.{step, fit_step, play}
use Rattle.kept.specs.Sound.{CountFits, Sound}
use Rattle.kept.proofs.Lent.{LengthsKept, lent_same}
use Rattle.kept.proofs.Decided.{meaning-decided, decided-allowed, meaning-allowed}
use Rattle.kept.proofs.Perform.{perform_kept, perform_well, perform-sound}

pub well_kept : (m : Machine) (a : Asked) → CountFits m.state → well_made m.phase m.state ≡ true → well_made (step m a).next.phase (step m a).next.state ≡ true
unfolding step
well_kept m a b e = perform_well (meaning m a) m (meaning-allowed m a) b e

pub fit_step_kept : (m : Machine) (a : Asked) → CountFits m.state → well_made m.phase m.state ≡ true → well_made (fit_step m a).next.phase (fit_step m a).next.state ≡ true
unfolding fit_step
fit_step_kept m a b e = perform_well (decided m.state a) m (decided-allowed m.state a) b e

-- Row 12: a card that is not well made is refused, and nothing changes.
pub not_well_refused : (m : Machine) (a : Asked) → well_made m.phase m.state ≡ false → step m a ≡ record { outcome = Err NotWellMade; next = m }
unfolding step meaning perform
not_well_refused m a e = rw e

-- what every card keeps, well made or not
abbrev Keeps : Machine → Machine → Type 0
Keeps m n = (n.state.made ≡ m.state.made) × CountFits n.state × LengthsKept m n

any_keeps : (w : Bool) (m : Machine) (a : Asked) → well_made m.phase m.state ≡ w → CountFits m.state → Keeps m (step m a).next
unfolding step
any_keeps true m a e b = let x = perform_kept (meaning m a) m (meaning-allowed m a) b e in (x.0.0.0, x.0.2, x.1)
any_keeps false m a e b =
    subst (λ (s : Effect). Keeps m s.next) (sym (not_well_refused m a e)) (refl, b, lent_same m)

step_keeps : (m : Machine) (a : Asked) → CountFits m.state → Keeps m (step m a).next
step_keeps m a b = any_keeps (well_made m.phase m.state) m a refl b

pub lengths_kept : (m : Machine) (a : Asked) → CountFits m.state → length m.buffer ≡ 512 →
    (length (step m a).next.store ≡ length m.store)
    × (length (step m a).next.marks ≡ length m.marks)
    × (length (step m a).next.buffer ≡ 512)
lengths_kept m a b l = (step_keeps m a b).2 l

-- A sound machine stays sound.
pub fit_step_sound : (m : Machine) (a : Asked) → Sound m → Sound (fit_step m a).next
unfolding fit_step
fit_step_sound m a s = perform-sound (decided m.state a) m (decided-allowed m.state a) s

pub sound_kept : (m : Machine) (a : Asked) → Sound m → Sound (step m a).next
unfolding step
sound_kept m a s = perform-sound (meaning m a) m (meaning-allowed m a) s

-- Of such a machine, and a tuple buffer of 256 bytes, rows 12, 2, 3 and 5 do not apply.
pub sound_fit_step : (m : Machine) (a : Asked) → Sound m → length a.tuples ≡ 256 → fit_step m a ≡ step m a
unfolding fit_step step
sound_fit_step m a s t = rw (meaning-decided m a s.made s.store s.marks t)

-- … after any list of accesses.
pub sound-played : (l : List Asked) (m : Machine) → Sound m → Sound (play m l).last
unfolding play
sound-played [] m s = s
sound-played (a ∷ l) m s = sound-played l (step m a).next (sound_kept m a s)
