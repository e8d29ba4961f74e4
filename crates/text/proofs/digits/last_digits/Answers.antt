use Rattle.std.proofs.Common.{sym, ◌∙◌}
use Rattle.text.proofs.Texts.{last_none, last_turn}
use Rattle.text.proofs.digits.last_digits.Goals as goal

pub loop-k-preserved : goal.loop-k-preserved
loop-k-preserved c =
    let l = c.loop-k in
    rw c.last_digit.ensures (sym (last_turn l.k l.left c.args.at l.out c.loop-k-test.true) ∙ l.invariant)

pub returns : goal.returns
returns c =
    let l = c.loop-k in
    sym (last_none l.k l.left c.args.at l.out c.loop-k-test.false) ∙ l.invariant
