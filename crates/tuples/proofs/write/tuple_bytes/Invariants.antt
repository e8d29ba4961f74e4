use Rattle.std.proofs.Common.{◌≡◌, take}
use Rattle.tuples.specs.Write.{tuple_bytes}
use Rattle.tuples.proofs.write.tuple_bytes.Given as goal

abbrev pub invariant-loop-entry : goal.invariant-loop-entry
invariant-loop-entry l = l.bytes.items ≡ tuple_bytes l.bodies (take l.entry-index l.list)
