use Rattle.text.proofs.Numerals.{line_print}
use Rattle.std.proofs.Common.{rules}
use Rattle.session.proofs.run.put_answer.Goals as goal

pub returns-in-Ok : goal.returns-in-Ok
returns-in-Ok c =
    let e = line_print c.args.number c.args.table.now c.args.access.write 0 c.written_or_read-shown.result c.requires.0 c.requires.1 (search rules) in
    simp c.in-Ok.is (rw c.written_or_read-shown.ensures at (rw e at c.put_accepted.ensures))

pub returns-in-Err : goal.returns-in-Err
returns-in-Err c =
    let e = line_print c.args.number c.args.table.now c.args.access.write c.number-answer.result 0 c.requires.0 c.requires.1 (search rules) in
    simp c.in-Err.is (rw c.number-answer.ensures at (rw e at c.put_line.ensures))
