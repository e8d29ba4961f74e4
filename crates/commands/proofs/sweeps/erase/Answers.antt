use mathlib.Core.Path.{sym, ◌∙◌}
use Rattle.commands.specs.Sweeps.{all_ff}
use Rattle.commands.proofs.Loops.{erase_fails, erase_step}
use Rattle.commands.proofs.sweeps.erase.Goals as goal

pub loop-left-preserved : goal.loop-left-preserved
unfolding all_ff
loop-left-preserved c =
    let e = simp c.in_default.is at c.sector_stored-stored.ensures in
    rw c.sector_done-state.ensures (sym (erase_step _ _ _ _ _ _ _ _ c.loop-left-test.true e) ∙ c.loop-left.invariant)

pub returns-in-Err : goal.returns-in-Err
unfolding all_ff
returns-in-Err c =
    let e = simp c.in-Err.is at c.sector_stored-stored.ensures in
    simp c.ended.ensures (sym (erase_fails _ _ _ _ _ _ _ _ c.loop-left-test.true e) ∙ c.loop-left.invariant)
