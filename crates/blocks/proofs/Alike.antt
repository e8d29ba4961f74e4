-- Two sound cards that have all but blocks in common: every access, accepted or refused, has the same answer of both, and leaves them so.
use mathlib.Core.Bool.{true}
use mathlib.Core.Path.{◌≡◌, refl, sym, ap, ◌∙◌}
use mathlib.Core.List.{List, [], ◌∷◌}
use Rattle.registers.specs.declared.Load.{Load}
use Rattle.registers.specs.declared.Load.TheVariants.{Sectors, Buffer}
use Rattle.registers.specs.declared.Phase.{Phase}
use Rattle.registers.specs.declared.Phase.TheVariants.{Idle, DataIn, DataOut}
use Rattle.registers.specs.declared.State.{State}
use Rattle.registers.specs.Machine.{Machine}
use Rattle.registers.specs.WellMade.{well_made, status_fits, in_reset, hold_fits, words_fit, sectors_fit, load_fits, run_fits, load_pace_fits, run_pace_fits}
use Rattle.port.specs.Data.{Effect}
use Rattle.card.specs.Access.{Asked, meaning}
use Rattle.card.specs.Step.{step, play}
use Rattle.kept.specs.Sound.{Sound}
use Rattle.kept.proofs.Registers.{PhaseFits, apart, together}
use Rattle.kept.proofs.Paces.{single-fits}
use Rattle.kept.proofs.Step.{sound_kept}
use Rattle.blocks.specs.Alike.{singly, phase_singly, bare, bare_effect, bare_steps}
use Rattle.blocks.proofs.Bare.{quiet}
use Rattle.blocks.proofs.BareAccess.{perform-bare}

-- what is bare is well made too
load_quiet : (l : Load) (s : State) → load_fits l s ≡ true → load_fits (singly l) (quiet s) ≡ true
unfolding load_fits sectors_fit
load_quiet Buffer s e = refl
load_quiet (Sectors left k) s e = e

load_singly : (l : Load) (s : State) → load_pace_fits (singly l) s.block ≡ true
unfolding load_pace_fits
load_singly Buffer s = refl
load_singly (Sectors left k) s = single-fits s.block

phase_fits : (p : Phase) (s : State) → PhaseFits p s → PhaseFits (phase_singly p) (quiet s)
unfolding status_fits hold_fits words_fit run_fits run_pace_fits in_reset
phase_fits Idle s r = r
phase_fits (DataIn t) s r = (r.0, r.1, r.2, load_quiet t.load s r.3, load_singly t.load s)
phase_fits (DataOut t) s r = (r.0, r.1, r.2, load_quiet t.load s r.3, load_singly t.load s)

well_bare : (m : Machine) → well_made m.phase m.state ≡ true → well_made (phase_singly m.phase) (quiet m.state) ≡ true
well_bare m e =
    let f = apart m.phase m.state e in
    together m.state.made (phase_singly m.phase) (quiet m.state) f.0 (phase_fits m.phase m.state f.1)

-- so an access means the same to it, and does the same
means_same : (m : Machine) (a : Asked) → well_made m.phase m.state ≡ true → meaning (bare m) a ≡ meaning m a
unfolding meaning
means_same m a e = rw (e, well_bare m e) refl

step-bare : (m : Machine) (a : Asked) → well_made m.phase m.state ≡ true → bare_effect (step (bare m) a) ≡ bare_effect (step m a)
unfolding step
step-bare m a e = rw (means_same m a e) (perform-bare (meaning m a) m)

pub step_alike : (m n : Machine) (a : Asked) → Sound m → Sound n → bare m ≡ bare n → bare_effect (step m a) ≡ bare_effect (step n a)
step_alike m n a s t e = sym (step-bare m a s.made) ∙ ap (λ (x : Machine). bare_effect (step x a)) e ∙ step-bare n a t.made

-- after any list of accesses: every answer, and all that each of them leaves
pub play_alike : (l : List Asked) (m n : Machine) → Sound m → Sound n → bare m ≡ bare n → bare_steps (play m l).steps ≡ bare_steps (play n l).steps
unfolding play
play_alike [] m n s t e = refl
play_alike (a ∷ l) m n s t e =
    let x = step_alike m n a s t e in
    let y = play_alike l (step m a).next (step n a).next (sound_kept m a s) (sound_kept n a t) (ap (λ (z : Effect). z.next) x) in
    ap (λ (z : Effect). z ∷ bare_steps (play (step m a).next l).steps) x ∙ ap (λ (z : List Effect). bare_effect (step n a) ∷ z) y
