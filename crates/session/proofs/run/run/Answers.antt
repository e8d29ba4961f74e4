use Rattle.std.proofs.Common.{length, ap, ◌∙◌}
use Rattle.card.specs.Doors.{machine_of}
use Rattle.text.specs.Output.{Output}
use Rattle.session.specs.Run.{script_from, result_of, shown_in}
use Rattle.text.proofs.Outputs.{put_holds}
use Rattle.session.proofs.run.run.Goals as goal

pub returns : goal.returns
returns c =
    let r = result_of c.args.first c.args.number (machine_of c.args.card c.args.store.now c.args.marks.now) (script_from (length c.args.part.now) c.args.part.now c.args.tuples.now 0) in
    c.run_from.ensures ∙ ap (λ (o : Output). shown_in o r) (put_holds r.session.text c.args.out.now)
