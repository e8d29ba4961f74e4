use Rattle.std.proofs.Common.{◌≡◌, ◌-◌, ◌^◌, ◌<◌, ◌≤◌, length}
use Rattle.registers.specs.Machine.{machine}
use Rattle.card.specs.Access.{verdict_of}
use Rattle.text.specs.Digits.{line_number}
use Rattle.text.specs.Output.{output}
use Rattle.session.specs.Run.{script_from, result_of, shown_at}
use Rattle.session.proofs.Runs.{to_come}
use Rattle.session.proofs.run.lines.Given as goal

-- in order: the accesses done, the part's length, the lengths of store, marks and output, the verdict, the counter's bound, its digits, and what is still to be done
abbrev pub invariant-loop-at : goal.invariant-loop-at
invariant-loop-at l =
    (l.count ≤ l.at)
    × (length l.part < 2 ^ 64)
    × (length l.store ≡ length l.initial.store)
    × (length l.marks ≡ length l.initial.marks)
    × (length l.out ≡ length l.initial.out)
    × (l.verdict ≡ verdict_of l.core.phase l.core.state l.store l.marks l.tuples)
    × (l.counter.value < 2 ^ 64)
    × (l.counter ≡ line_number l.counter.value)
    × (to_come (output l.out l.text) l.first l.counter.value l.count (machine l.core l.buffer l.store l.marks) l.part l.tuples l.at
    ≡ shown_at (output l.initial.out l.initial.text) (result_of l.first l.number (machine l.initial.core l.initial.buffer l.initial.store l.initial.marks) (script_from (length l.part) l.part l.tuples l.initial.at)))

abbrev pub decreases-loop-at : goal.decreases-loop-at
decreases-loop-at l = length l.part - l.at
