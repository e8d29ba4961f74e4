use Rattle.std.proofs.Common.{◌≡◌, length, take}
use Rattle.text.specs.Digits.{hex_table}
use Rattle.text.proofs.digits.hex_table.Given as goal

abbrev pub invariant-loop-i : goal.invariant-loop-i
invariant-loop-i l = (length l.table ≡ 512) × (take l.i l.table ≡ take l.i hex_table)
