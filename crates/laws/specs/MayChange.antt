-- Which accesses may change a sector at all: a data write, or the command C0H.
use Rattle.std.specs.Prelude.{ℕ, Bool, true, false}
use Rattle.maps.specs.declared.Register.{Register}
use Rattle.maps.specs.declared.Register.TheVariants.{ErrorFeature, SectorCount, SectorNumber, CylinderLow, CylinderHigh, DriveHead, StatusCommand, AlternateControl, DriveAddress}
use Rattle.commands.specs.declared.Command.{Command}
use Rattle.commands.specs.declared.Command.TheVariants.{Read, Write, Verify, Erase, Identify, ReadBuffer, WriteBuffer, SetGeometry, Diagnose, Recalibrate, Seek, Sense, SetMultiple, ReadMultiple, WriteMultiple, Other}
use Rattle.commands.specs.Table.{command_of}
use Rattle.card.specs.declared.Meaning.{Meaning}
use Rattle.card.specs.declared.Meaning.TheVariants.{TupleByte, ReadOption, WriteOption, ReadRegister, WriteRegister, ReadData, WriteData}

abbrev pub erases : Command → Bool
erases Read = false
erases Write = false
erases Verify = false
erases Erase = true
erases Identify = false
erases ReadBuffer = false
erases WriteBuffer = false
erases SetGeometry = false
erases Diagnose = false
erases Recalibrate = false
erases Seek = false
erases Sense = false
erases SetMultiple = false
erases ReadMultiple = false
erases WriteMultiple = false
erases Other = false

abbrev pub erases_by : Register → ℕ → Bool
erases_by ErrorFeature v = false
erases_by SectorCount v = false
erases_by SectorNumber v = false
erases_by CylinderLow v = false
erases_by CylinderHigh v = false
erases_by DriveHead v = false
erases_by StatusCommand v = erases (command_of v)
erases_by AlternateControl v = false
erases_by DriveAddress v = false

abbrev pub may_change : Meaning → Bool
may_change (Meaning.Refused r) = false
may_change (TupleByte b) = false
may_change ReadOption = false
may_change (WriteOption v) = false
may_change (ReadRegister r) = false
may_change (WriteRegister r v) = erases_by r v
may_change (ReadData port) = false
may_change (WriteData port v) = true
