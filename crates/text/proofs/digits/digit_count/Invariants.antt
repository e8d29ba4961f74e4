use Rattle.std.proofs.Common.{◌≡◌, ◌+◌, ◌-◌}
use Rattle.text.specs.Digits.{further_digits}
use Rattle.text.proofs.digits.digit_count.Given as goal

abbrev pub invariant-loop-count : goal.invariant-loop-count
invariant-loop-count l = further_digits (20 - l.count) l.left + l.count ≡ further_digits 19 l.n + 1
