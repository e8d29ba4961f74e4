use Rattle.std.proofs.Common.{◌≡◌, ℕ, List, sym, ap, ◌∙◌}
use Rattle.card.specs.declared.Answer.{Answer}
use Rattle.card.specs.Opening.{opened}
use Rattle.records.specs.declared.Sizes.{Sizes}
use Rattle.text.specs.Output.{Output, output}
use Rattle.session.specs.Run.{RunResult, printed_at}
use Rattle.session.specs.Play.{geometry_of, opens_as, opened_on}
use Rattle.session.proofs.play.opened_on.Goals as goal
use Rattle.answers.specs.Answers.{Outcome}

-- the opening's answer, once its outcome is known
as_opened : (s : Sizes) (file store marks tuples : List ℕ) (r : Answer) (x : Outcome) → r ≡ opened (geometry_of s) s.mode store marks tuples → r.outcome ≡ x →
    opens_as x r.card file store marks tuples ≡ opened_on s file store marks tuples
unfolding opened_on
as_opened s file store marks tuples r x e f =
    ap (λ (y : Outcome). opens_as y r.card file store marks tuples) (sym f)
    ∙ ap (λ (y : Answer). opens_as y.outcome y.card file store marks tuples) e

pub returns-in-Ok : goal.returns-in-Ok
returns-in-Ok c =
    ap (λ (s : RunResult Output). s.session) (rw c.from.ensures at c.run_from-ran.ensures)
    ∙ ap (printed_at (output c.args.out.now c.args.at)) (as_opened c.args.sizes c.args.file.now c.args.store.now c.args.marks.now c.args.tuples.now _ _ c.open-outcome.ensures.value c.in-Ok.is)

pub returns-in-Err : goal.returns-in-Err
returns-in-Err c =
    c.unopened.ensures
    ∙ ap (printed_at (output c.args.out.now c.args.at)) (as_opened c.args.sizes c.args.file.now c.args.store.now c.args.marks.now c.args.tuples.now _ _ c.open-outcome.ensures.value c.in-Err.is)
