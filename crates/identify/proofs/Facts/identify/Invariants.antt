use Rattle.std.proofs.Common.{◌≡◌, take}
use Rattle.identify.specs.Words.{told_bytes}
use Rattle.identify.proofs.Facts.identify.Given as goal

abbrev pub invariant-loop-i : goal.invariant-loop-i
invariant-loop-i l = take l.i l.byte-items ≡ take l.i (told_bytes l.self)
