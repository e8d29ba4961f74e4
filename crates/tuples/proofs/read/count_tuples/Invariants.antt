use Rattle.std.proofs.Common.{◌≡◌, ◌≤◌, ◌-◌, length}
use Rattle.tuples.specs.Chain.{chain_at}
use Rattle.tuples.specs.Read.{counted}
use Rattle.tuples.proofs.Counts.{added}
use Rattle.tuples.proofs.read.count_tuples.Given as goal

abbrev pub invariant-loop-entry : goal.invariant-loop-entry
invariant-loop-entry l = record { few : l.count ≤ l.at; sum : added l.count (chain_at l.buffer l.at) ≡ counted (chain_at l.buffer 0) }

abbrev pub decreases-loop-entry : goal.decreases-loop-entry
decreases-loop-entry l = length l.buffer - l.at
