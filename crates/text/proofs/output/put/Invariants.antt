use Rattle.std.proofs.Common.{◌≡◌, drop}
use Rattle.text.specs.Output.{output, put}
use Rattle.text.proofs.output.put.Given as goal

abbrev pub invariant-loop-b : goal.invariant-loop-b
invariant-loop-b l = put (output l.out l.next) (drop l.b-index l.text) ≡ put (output l.initial.out l.initial.next) l.text
