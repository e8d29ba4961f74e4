-- No second answer meets a promise: of the run and of the whole session, with all that was lent. (`number` promises `r ≡ d`: ground's `only_one`.)
use Rattle.std.proofs.Common.{◌≡◌, ℕ, List, sym, ap, ◌∙◌}
use Rattle.session.specs.declared.Ran.{Ran}
use Rattle.session.specs.declared.Told.{Told}
use Rattle.text.specs.Output.{Output}
use Rattle.session.specs.Run.{Session, RunResult, ran_as, told_as}

abbrev told_in : Session Output → Told
told_in p = record { place = p.place; done = p.done; end = p.end; text = p.text.at }

abbrev ran_in : RunResult Output → Ran
ran_in s = record { card = record { phase = s.machine.phase; state = s.machine.state; buffer = s.machine.buffer }; told = told_in s.session }

-- `run` and `run_from`: the answer, the store, the marks and the output
pub only_ran : (d : RunResult Output) (r s : Ran) (store store' marks marks' bytes bytes' : List ℕ) → ran_as r store marks bytes ≡ d → ran_as s store' marks' bytes' ≡ d →
    (r ≡ s) × (store ≡ store') × (marks ≡ marks') × (bytes ≡ bytes')
only_ran d r s store store' marks marks' bytes bytes' p q =
    let e = p ∙ sym q in
    (ap ran_in e, ap (λ (x : RunResult Output). x.machine.store) e, ap (λ (x : RunResult Output). x.machine.marks) e, ap (λ (x : RunResult Output). x.session.text.bytes) e)

-- `play`: the answer and the output
pub only_told : (d : Session Output) (r s : Told) (bytes bytes' : List ℕ) → told_as r bytes ≡ d → told_as s bytes' ≡ d → (r ≡ s) × (bytes ≡ bytes')
only_told d r s bytes bytes' p q =
    let e = p ∙ sym q in
    (ap told_in e, ap (λ (x : Session Output). x.text.bytes) e)
