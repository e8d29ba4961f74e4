use Rattle.std.proofs.Common.{rules}
use Rattle.card.specs.Access.{asked_with}
use Rattle.registers.specs.Machine.{machine}
use Rattle.session.proofs.Verdicts.{steady}
use Rattle.session.proofs.run.access_done.Goals as goal

pub returns-clause-marks_after : goal.returns-clause-marks_after
returns-clause-marks_after c =
    let m = machine c.args.core c.args.buffer.now c.args.store.now c.args.marks.now in
    (steady c.args.verdict m (asked_with c.args.access c.args.tuples.now) _ c.requires (search rules) c.told-buffer c.by_verdict.ensures).0

pub returns-clause-verdict_value : goal.returns-clause-verdict_value
returns-clause-verdict_value c =
    let m = machine c.args.core c.args.buffer.now c.args.store.now c.args.marks.now in
    (steady c.args.verdict m (asked_with c.args.access c.args.tuples.now) _ c.requires (search rules) c.told-buffer c.by_verdict.ensures).1
