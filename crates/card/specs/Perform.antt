-- What an access does, once it is known what it means.
use Rattle.std.specs.Prelude.{ℕ, Bool, true, false, Ok}
use Rattle.ground.specs.Choice.{pick}
use Rattle.maps.specs.declared.Register.{Register}
use Rattle.maps.specs.declared.Register.TheVariants.{ErrorFeature, SectorCount, SectorNumber, CylinderLow, CylinderHigh, DriveHead, StatusCommand, AlternateControl, DriveAddress}
use Rattle.registers.specs.declared.Core.{Core}
use Rattle.registers.specs.State.{runs}
use Rattle.registers.specs.Machine.{Machine, machine, core, core_of, with_core}
use Rattle.registers.specs.Resets.{control_written, option_core, option_buffer}
use Rattle.registers.specs.Values.{value_read, after_read, register_set}
use Rattle.port.specs.declared.Done.{Done}
use Rattle.port.specs.Data.{Effect, effect, accepted, refused_with, data_read, data_written}
use Rattle.commands.specs.Table.{command_given}
use Rattle.card.specs.declared.Meaning.{Meaning}
use Rattle.card.specs.declared.Meaning.TheVariants.{TupleByte, ReadOption, WriteOption, ReadRegister, WriteRegister, ReadData, WriteData}

-- the Configuration Option Register: in a Device Control hold it "works on"; "Reading gives the last value"
unfoldable pub option_written : ℕ → Machine → Machine
option_written v m =
    machine (option_core v m.phase m.state) (option_buffer v m.state m.buffer) m.store m.marks

-- "writes to offsets other than E have no effect" in a Device Control hold; "While DRQ is set, writes to 1..6 and D have no effect"
unfoldable pub plain_core : Register → ℕ → Core → Core
plain_core r v k =
    pick k.state.control.held k
    (pick (runs k.phase) k
    (core k.phase (register_set r v k.state)))

abbrev pub plain_written : Register → ℕ → Machine → Machine
plain_written r v m = with_core (plain_core r v (core_of m)) m

-- the two registers that are written by rules of their own, as the code asks for them first; `register_written` has them by its rows
abbrev pub is_command : Register → Bool
is_command ErrorFeature = false
is_command SectorCount = false
is_command SectorNumber = false
is_command CylinderLow = false
is_command CylinderHigh = false
is_command DriveHead = false
is_command StatusCommand = true
is_command AlternateControl = false
is_command DriveAddress = false

abbrev pub is_control : Register → Bool
is_control ErrorFeature = false
is_control SectorCount = false
is_control SectorNumber = false
is_control CylinderLow = false
is_control CylinderHigh = false
is_control DriveHead = false
is_control StatusCommand = false
is_control AlternateControl = true
is_control DriveAddress = false

unfoldable pub register_written : Register → ℕ → Machine → Machine
register_written ErrorFeature v m = plain_written ErrorFeature v m
register_written SectorCount v m = plain_written SectorCount v m
register_written SectorNumber v m = plain_written SectorNumber v m
register_written CylinderLow v m = plain_written CylinderLow v m
register_written CylinderHigh v m = plain_written CylinderHigh v m
register_written DriveHead v m = plain_written DriveHead v m
register_written StatusCommand v m = pick m.state.control.held m (command_given v m)
register_written AlternateControl v m = with_core (control_written v m.phase m.state) m
register_written DriveAddress v m = plain_written DriveAddress v m

-- a register's value, and the interrupt mark that reading Status clears
abbrev pub register_read : Register → Core → Done
register_read r k = record { outcome = Ok (value_read r k.phase k.state); core = core k.phase (after_read r k.state) }

-- "Every refusal gives value 0 and changes nothing"; "An accepted access is 0 with its value (0 for a write)"
unfoldable pub perform : Meaning → Machine → Effect
perform (Meaning.Refused r) m = refused_with r m
perform (TupleByte b) m = accepted b m
perform ReadOption m = accepted m.state.option m
perform (WriteOption v) m = accepted 0 (option_written v m)
perform (ReadRegister r) m = effect (register_read r (core_of m)) m.buffer m.store m.marks
perform (WriteRegister r v) m = accepted 0 (register_written r v m)
perform (ReadData port) m = data_read port m
perform (WriteData port v) m = data_written port v m
