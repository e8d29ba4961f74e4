use Rattle.std.proofs.Common.{◌≡◌, ◌≤◌, ◌+◌, false, drop}
use Rattle.ground.specs.Choice.{pick}
use Rattle.sectors.specs.Marks.{marks_fit, bad_in}
use Rattle.sectors.proofs.marks.count.Given as goal

abbrev pub invariant-loop-mark : goal.invariant-loop-mark
invariant-loop-mark l =
    (l.bad ≤ l.mark-index) × (l.bad + bad_in (drop l.mark-index l.marks) ≡ bad_in l.marks) ×
    (pick l.fit (marks_fit (drop l.mark-index l.marks)) false ≡ marks_fit l.marks)
