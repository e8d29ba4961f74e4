use Rattle.std.proofs.Common.{sym, ◌∙◌}
use Rattle.commands.proofs.Loops.{verify_fails, verify_step, same_total, placed}
use Rattle.commands.proofs.sweeps.verify.Goals as goal

pub returns-in-Err : goal.returns-in-Err
returns-in-Err c =
    let l = c.loop-left in
    let t = placed _ l.state _ _ l.invariant.0 (sym c.in-Err.is ∙ c.sector_test_by.ensures) in
    simp c.ended.ensures (sym (verify_fails _ _ _ _ c.loop-left-test.true t) ∙ l.invariant.1)

pub loop-left-preserved : goal.loop-left-preserved
loop-left-preserved c =
    let l = c.loop-left in
    let t = placed _ l.state _ _ l.invariant.0 (sym c.in_default.is ∙ c.sector_test_by.ensures) in
    rw c.sector_done-state.ensures (l.invariant.0 ∙ sym (same_total _ _), sym (verify_step _ _ _ _ c.loop-left-test.true t) ∙ l.invariant.1)
