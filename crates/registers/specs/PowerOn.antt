-- 01, "Registers": "Power-on: Status 50H, Error 01H, Count 1, Sector 1, the rest 0, …, code 00H, default geometry, index 0".
use Rattle.std.specs.Prelude.{ℕ, false, List, replicate}
use Rattle.ground.specs.Sizes.{sector_bytes}
use Rattle.registers.specs.declared.Registers.{Registers}
use Rattle.registers.specs.declared.Made.{Made}
use Rattle.registers.specs.declared.State.{State}
use Rattle.registers.specs.Status.{idle_status, power_on_error}
use Rattle.registers.specs.Blocks.{no_block}

abbrev pub power_registers : Registers
power_registers = record { status = idle_status; error = power_on_error; count = 1; address = record { sector = 1; low = 0; high = 0; head = 0 } }

-- with a map setting, since a cleared SRESET "is power-on with the index just written"; and 02, "Eight": with the number of marks that are not 0,
-- since "resets keep it"; "One": "Resets and power-on forget the block size"
abbrev pub power_on : Made → ℕ → ℕ → State
power_on made bad option = record {
  made = made;
  current = made.default;
  registers = power_registers;
  option = option;
  control = record { held = false; masked = false };
  interrupt = false;
  code = 0x00;
  bad = bad;
  block = no_block;
}

-- "buffer zeros"
unfoldable pub zeros : List ℕ
zeros = replicate sector_bytes 0
