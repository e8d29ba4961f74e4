use Rattle.std.proofs.Common.{◌≡◌}
use Rattle.registers.specs.State.{total_in}
use Rattle.commands.specs.Sweeps.{verify_from}
use Rattle.commands.proofs.sweeps.verify.Given as goal

abbrev pub invariant-loop-left : goal.invariant-loop-left
invariant-loop-left l = (l.total ≡ total_in l.state) × (verify_from l.left l.state l.marks ≡ verify_from l.fn.count l.fn.state l.marks)
