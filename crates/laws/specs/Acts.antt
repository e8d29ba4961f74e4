-- The accesses that 01's paragraph "Interrupt mark" speaks of.
use Rattle.std.specs.Prelude.{ℕ, ◌+◌, Bool, true, eqb}
use Rattle.ground.specs.Choice.{pick}
use Rattle.maps.specs.declared.Register.{Register}
use Rattle.maps.specs.declared.Register.TheVariants.{ErrorFeature, SectorCount, SectorNumber, CylinderLow, CylinderHigh, DriveHead, StatusCommand, AlternateControl, DriveAddress}
use Rattle.registers.specs.declared.Load.{Load}
use Rattle.registers.specs.declared.Load.TheVariants.{Sectors, Buffer}
use Rattle.registers.specs.declared.Phase.{Phase}
use Rattle.registers.specs.declared.Phase.TheVariants.{Idle, DataIn, DataOut}
use Rattle.registers.specs.declared.Core.{Core}
use Rattle.commands.specs.declared.Command.{Command}
use Rattle.commands.specs.Table.{command_of}
use Rattle.card.specs.declared.Meaning.{Meaning}
use Rattle.card.specs.declared.Meaning.TheVariants.{TupleByte, ReadOption, WriteOption, ReadRegister, WriteRegister, ReadData, WriteData}

pub data Act : Type 0 where
  StatusRead : Act
  CommandWrite : Command → Act
  ControlWrite : ℕ → Act
  OptionWrite : ℕ → Act
  -- 02, "One": with whether the sector under way is the last of its block
  DataRead : Bool → Act
  DataWrite : Bool → Act
  NoMatter : Act

-- Alternate Status is another register than Status
abbrev pub read_act : Register → Act
read_act ErrorFeature = NoMatter
read_act SectorCount = NoMatter
read_act SectorNumber = NoMatter
read_act CylinderLow = NoMatter
read_act CylinderHigh = NoMatter
read_act DriveHead = NoMatter
read_act StatusCommand = StatusRead
read_act AlternateControl = NoMatter
read_act DriveAddress = NoMatter

-- a Command write in a Device Control hold has no effect
abbrev pub write_act : Register → ℕ → Bool → Act
write_act ErrorFeature v held = NoMatter
write_act SectorCount v held = NoMatter
write_act SectorNumber v held = NoMatter
write_act CylinderLow v held = NoMatter
write_act CylinderHigh v held = NoMatter
write_act DriveHead v held = NoMatter
write_act StatusCommand v held = pick held NoMatter (CommandWrite (command_of v))
write_act AlternateControl v held = ControlWrite v
write_act DriveAddress v held = NoMatter

-- 02, "One": whether the sector under way is the last of its block: with it as many have moved as the block has; the buffer is by itself
abbrev pub last_of_load : Load → Bool
last_of_load Buffer = true
last_of_load (Sectors left pace) = eqb (pace.place + 1) pace.stride

-- (with no transfer a data access turns to no sector, so either will do)
abbrev pub last_of_block : Phase → Bool
last_of_block Idle = true
last_of_block (DataIn t) = last_of_load t.load
last_of_block (DataOut t) = last_of_load t.load

abbrev pub act_of : Meaning → Core → Act
act_of (Meaning.Refused r) c = NoMatter
act_of (TupleByte b) c = NoMatter
act_of ReadOption c = NoMatter
act_of (WriteOption v) c = OptionWrite v
act_of (ReadRegister r) c = read_act r
act_of (WriteRegister r v) c = write_act r v c.state.control.held
act_of (ReadData port) c = DataRead (last_of_block c.phase)
act_of (WriteData port v) c = DataWrite (last_of_block c.phase)
