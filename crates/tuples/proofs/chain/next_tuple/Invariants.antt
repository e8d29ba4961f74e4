use Rattle.std.proofs.Common.{◌≡◌, ◌-◌, length}
use Rattle.tuples.specs.Chain.{next_at}
use Rattle.tuples.proofs.chain.next_tuple.Given as goal

abbrev pub invariant-loop-entry : goal.invariant-loop-entry
invariant-loop-entry l = next_at l.buffer l.at ≡ next_at l.buffer l.from

abbrev pub decreases-loop-entry : goal.decreases-loop-entry
decreases-loop-entry l = length l.buffer - l.at
