use Rattle.std.proofs.Common.{sym, ◌∙◌, rules}
use Rattle.ground.proofs.Lists.{copy_more, copy_all}
use Rattle.text.specs.Digits.{hex_table}
use Rattle.text.proofs.Hex.{table_at, table_length}
use Rattle.text.proofs.digits.hex_table.Goals as goal

pub loop-i-preserved : goal.loop-i-preserved
loop-i-preserved c =
    let l = c.loop-i in
    let h = c.loop-i-test.true in
    let e = c.hex_at.ensures ∙ sym (table_at l.i h) in
    (search rules, rw e (copy_more l.i hex_table l.table (rw table_length h) (rw l.invariant.0 h) l.invariant.1))

pub returns : goal.returns
returns c =
    let l = c.loop-i in
    let h = c.loop-i-test.false in
    copy_all l.i hex_table l.table (rw table_length h) (rw l.invariant.0 h) l.invariant.1
