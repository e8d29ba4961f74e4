-- 01, "Interrupt mark": "Each answer says if the line is up (mark set, bit 1 clear)."
use Rattle.std.specs.Prelude.{Bool, not, ◌&&◌}
use Rattle.registers.specs.declared.State.{State}

abbrev pub line_up : State → Bool
line_up s = s.interrupt && not s.control.masked
