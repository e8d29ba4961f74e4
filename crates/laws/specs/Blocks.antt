-- 02, "One": the block after an access. C6H "takes a block of 1, 2, 4, 8 or 16 sectors", "Resets and power-on forget the block size", and nothing else
-- changes it.
use Rattle.std.specs.Prelude.{ℕ, Bool, not, ◌&&◌, ◌||◌, eqb}
use Rattle.ground.specs.Choice.{pick}
use Rattle.maps.specs.declared.Register.{Register}
use Rattle.maps.specs.declared.Register.TheVariants.{ErrorFeature, SectorCount, SectorNumber, CylinderLow, CylinderHigh, DriveHead, StatusCommand, AlternateControl, DriveAddress}
use Rattle.registers.specs.declared.State.{State}
use Rattle.commands.specs.declared.Command.{Command}
use Rattle.commands.specs.declared.Command.TheVariants.{Read, Write, Verify, Erase, Identify, ReadBuffer, WriteBuffer, SetGeometry, Diagnose, Recalibrate, Seek, Sense, SetMultiple, ReadMultiple, WriteMultiple, Other}
use Rattle.commands.specs.Table.{command_of}
use Rattle.card.specs.declared.Meaning.{Meaning}
use Rattle.card.specs.declared.Meaning.TheVariants.{TupleByte, ReadOption, WriteOption, ReadRegister, WriteRegister, ReadData, WriteData}
use Rattle.laws.specs.Bits.{bit_seven, bit_two}

-- the five, from 02 anew
abbrev pub one_of_five : ℕ → Bool
one_of_five n = eqb n 1 || (eqb n 2 || (eqb n 4 || (eqb n 8 || eqb n 16)))

abbrev pub none : ℕ
none = 0

-- "other counts, 0 included, … keep the old block"; so do all other commands
abbrev pub command_block : Command → ℕ → ℕ → ℕ
command_block Read count block = block
command_block Write count block = block
command_block Verify count block = block
command_block Erase count block = block
command_block Identify count block = block
command_block ReadBuffer count block = block
command_block WriteBuffer count block = block
command_block SetGeometry count block = block
command_block Diagnose count block = block
command_block Recalibrate count block = block
command_block Seek count block = block
command_block Sense count block = block
command_block SetMultiple count block = pick (one_of_five count) count block
command_block ReadMultiple count block = block
command_block WriteMultiple count block = block
command_block Other count block = block

-- a Command write in a Device Control hold has no effect; that hold is left where bit 2 is cleared
abbrev pub register_block : Register → ℕ → State → ℕ
register_block ErrorFeature v s = s.block
register_block SectorCount v s = s.block
register_block SectorNumber v s = s.block
register_block CylinderLow v s = s.block
register_block CylinderHigh v s = s.block
register_block DriveHead v s = s.block
register_block StatusCommand v s = pick s.control.held s.block (command_block (command_of v) s.registers.count s.block)
register_block AlternateControl v s = pick (s.control.held && not (bit_two v)) none s.block
register_block DriveAddress v s = s.block

-- SRESET is left where bit 7 is cleared
abbrev pub block_after : Meaning → State → ℕ
block_after (Meaning.Refused r) s = s.block
block_after (TupleByte b) s = s.block
block_after ReadOption s = s.block
block_after (WriteOption v) s = pick (bit_seven s.option && not (bit_seven v)) none s.block
block_after (ReadRegister r) s = s.block
block_after (WriteRegister r v) s = register_block r v s
block_after (ReadData port) s = s.block
block_after (WriteData port v) s = s.block
