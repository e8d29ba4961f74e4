use Rattle.std.proofs.Common.{◌≡◌}
use Rattle.text.specs.Digits.{last_digits}
use Rattle.text.specs.Output.{written}
use Rattle.text.proofs.digits.last_digits.Given as goal

abbrev pub invariant-loop-k : goal.invariant-loop-k
invariant-loop-k l = written l.out l.at (last_digits l.k l.left) ≡ written l.initial.out l.at (last_digits l.count l.n)
