use mathlib.Core.Path.{◌≡◌}
use Rattle.commands.specs.Sweeps.{erase_from}
use Rattle.commands.proofs.sweeps.erase.Given as goal

abbrev pub invariant-loop-left : goal.invariant-loop-left
invariant-loop-left l = erase_from l.left l.state l.store l.marks ≡ erase_from l.fn.count l.fn.state l.initial.store l.initial.marks
