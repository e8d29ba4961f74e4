use Rattle.std.proofs.Common.{◌+◌, Err, sym, ap, ◌∙◌, arith}
use Rattle.registers.specs.Machine.{machine}
use Rattle.session.specs.declared.Failure.TheVariants.{Broken}
use Rattle.text.specs.Digits.{next_number}
use Rattle.text.specs.Output.{output}
use Rattle.text.proofs.Numerals.{next_number_lem, own_number}
use Rattle.session.specs.Run.{wrapped}
use Rattle.session.proofs.Runs.{stops_at, lines_end, lines_stop, lines_turn}
use Rattle.session.proofs.run.lines.Goals as goal

pub returns-in-Err : goal.returns-in-Err
returns-in-Err c =
    let o = output c.loop-at.out c.loop-at.text in
    let m = machine c.loop-at.core c.loop-at.buffer c.loop-at.store c.loop-at.marks in
    let e = sym c.next_record.ensures ∙ c.in-Err.is in
    rw (c.ran.ensures, c.into.ensures)
    (ap (stops_at m (wrapped (c.args.first + c.loop-at.at)) c.loop-at.count (Err (Broken c.in-Err.why))) c.put_bad-next.ensures
    ∙ sym (lines_stop o c.args.first c.loop-at.counter.value c.loop-at.count c.loop-at.at c.args.part.now c.args.tuples.now m c.in-Err.why c.loop-at.invariant.0 c.loop-at-test.true e)
    ∙ c.loop-at.invariant.8)

pub loop-at-preserved : goal.loop-at-preserved
loop-at-preserved c =
    let m = machine c.loop-at.core c.loop-at.buffer c.loop-at.store c.loop-at.marks in
    let g = c.next-counter.ensures ∙ ap next_number c.loop-at.invariant.7 ∙ sym (next_number_lem c.loop-at.counter.value c.loop-at.invariant.6) in
    let f = lines_turn (output c.loop-at.out c.loop-at.text) _ c.args.first c.loop-at.counter.value c.loop-at.count c.loop-at.at c.args.part.now c.args.tuples.now m c.in-Ok.access _ c.loop-at.invariant.0 c.loop-at-test.true (sym c.next_record.ensures ∙ c.in-Ok.is) c.access_done-done.ensures.marks_after c.put_answer-text.ensures in (
      omega (arith, c.loop-at.invariant.0, c.access_length.ensures.1),
      c.loop-at.invariant.1,
      c.access_done-done.auto.store ∙ c.loop-at.invariant.2,
      c.access_done-done.auto.marks ∙ c.loop-at.invariant.3,
      c.put_answer-text.auto.out ∙ c.loop-at.invariant.4,
      c.access_done-done.ensures.verdict_value,
      rw g (omega arith),
      own_number _ _ g,
      rw (g, c.from-at.ensures, c.access_length.ensures.0) (f ∙ c.loop-at.invariant.8),
    )

pub returns : goal.returns
returns c =
    let m = machine c.loop-at.core c.loop-at.buffer c.loop-at.store c.loop-at.marks in
    rw c.ran-2.ensures (sym (lines_end (output c.loop-at.out c.loop-at.text) c.args.first c.loop-at.counter.value c.loop-at.count c.loop-at.at c.args.part.now c.args.tuples.now m c.loop-at-test.false) ∙ c.loop-at.invariant.8)
