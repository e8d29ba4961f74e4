-- How a command ends: 01, "Registers" (Status, Error), and the codes of the command table.
use Rattle.std.specs.Prelude.{ℕ, true}
use Rattle.geometry.specs.Codes.{bad_head_or_sector_code, bad_cylinder_or_lba_code, bad_geometry_code}
use Rattle.registers.specs.declared.Phase.TheVariants.{Idle}
use Rattle.registers.specs.declared.State.{State}
use Rattle.registers.specs.declared.Core.{Core}
use Rattle.registers.specs.Status.{idle_status, error_status, fault_status, UNC, IDNF, ABRT}
use Rattle.registers.specs.State.{with_status, with_error, with_code, with_interrupt}
use Rattle.registers.specs.Machine.{core}
use Rattle.transfers.specs.declared.End.{End}
use Rattle.transfers.specs.declared.End.TheVariants.{Good, BadHeadOrSector, BadCylinder, BadLba, PastEnd, Unreadable, WriteFault, BadGeometry, NoSuchCommand}

-- Status: idle, write fault where a mark forbids writing ("ABRT and DWF"), else error
abbrev pub end_status : End → ℕ
end_status Good = idle_status
end_status BadHeadOrSector = error_status
end_status BadCylinder = error_status
end_status BadLba = error_status
end_status PastEnd = error_status
end_status Unreadable = error_status
end_status WriteFault = fault_status
end_status BadGeometry = error_status
end_status NoSuchCommand = error_status

-- at a good end Error is as the command set it; a bad address: "Both are IDNF."; and 02, "Six": "a run past the end ends before its first sector with
-- IDNF, 2FH"
abbrev pub end_error : End → ℕ → ℕ
end_error Good error = error
end_error BadHeadOrSector error = IDNF
end_error BadCylinder error = IDNF
end_error BadLba error = IDNF
end_error PastEnd error = IDNF
end_error Unreadable error = UNC
end_error WriteFault error = ABRT
end_error BadGeometry error = ABRT
end_error NoSuchCommand error = ABRT

-- the codes that the command table gives: "mark 1: UNC, 11H", "mark 2: ABRT and DWF, 03H", "others: ABRT, 20H"
abbrev pub unreadable_code : ℕ
unreadable_code = 0x11

abbrev pub write_fault_code : ℕ
write_fault_code = 0x03

abbrev pub no_such_command_code : ℕ
no_such_command_code = 0x20

-- at a good end the code is as the command set it
abbrev pub end_code : End → ℕ → ℕ
end_code Good code = code
end_code BadHeadOrSector code = bad_head_or_sector_code
end_code BadCylinder code = bad_cylinder_or_lba_code
end_code BadLba code = bad_cylinder_or_lba_code
end_code PastEnd code = bad_cylinder_or_lba_code
end_code Unreadable code = unreadable_code
end_code WriteFault code = write_fault_code
end_code BadGeometry code = bad_geometry_code
end_code NoSuchCommand code = no_such_command_code

-- a command ends, and the interrupt mark is set: "at each command end"; the registers that name the sector and Count are left as they stand
abbrev pub ended : End → State → Core
ended e s = core Idle (with_interrupt true (with_code (end_code e s.code) (with_error (end_error e s.registers.error) (with_status (end_status e) s))))

-- "… except a good end of reading data", which leaves the interrupt mark
abbrev pub reading_ended : State → Core
reading_ended s = core Idle (with_status idle_status s)
