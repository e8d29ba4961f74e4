-- What kind of access it is, by what it means to the card: which register it reads, which command it gives, how that command ends. A wrong card
-- goes wrong at accesses of one kind.
use Rattle.std.specs.Prelude.{ℕ, Bool, ◌&&◌, ◌||◌, eqb, ltb}
use Rattle.ground.specs.Choice.{pick}
use Rattle.maps.specs.declared.Register.{Register}
use Rattle.maps.specs.declared.Register.TheVariants.{ErrorFeature, SectorCount, SectorNumber, CylinderLow, CylinderHigh, DriveHead, StatusCommand, AlternateControl, DriveAddress}
use Rattle.registers.specs.declared.State.{State}
use Rattle.registers.specs.Status.{error_status, IDNF}
use Rattle.registers.specs.State.{runs}
use Rattle.registers.specs.Machine.{Machine}
use Rattle.card.specs.declared.Meaning.{Meaning}
use Rattle.card.specs.declared.Meaning.TheVariants.{TupleByte, ReadOption, WriteOption, ReadRegister, WriteRegister, ReadData, WriteData}
use Rattle.card.specs.Access.{Asked, meaning}
use Rattle.card.specs.Step.{step}

-- 01, "Offsets"; Error/Feature is also at D
abbrev pub offset_of : Register → ℕ
offset_of ErrorFeature = 0x1
offset_of SectorCount = 0x2
offset_of SectorNumber = 0x3
offset_of CylinderLow = 0x4
offset_of CylinderHigh = 0x5
offset_of DriveHead = 0x6
offset_of StatusCommand = 0x7
offset_of AlternateControl = 0xE
offset_of DriveAddress = 0xF

-- the offset of the register that is read; 10H where none is
abbrev pub read_in : Meaning → ℕ
read_in (Meaning.Refused r) = 0x10
read_in (TupleByte b) = 0x10
read_in ReadOption = 0x10
read_in (WriteOption v) = 0x10
read_in (ReadRegister r) = offset_of r
read_in (WriteRegister r v) = 0x10
read_in (ReadData p) = 0x10
read_in (WriteData p v) = 0x10

-- the opcode that is written to Command; 100H where none is
abbrev pub opcode_in : Meaning → ℕ
opcode_in (Meaning.Refused r) = 0x100
opcode_in (TupleByte b) = 0x100
opcode_in ReadOption = 0x100
opcode_in (WriteOption v) = 0x100
opcode_in (ReadRegister r) = 0x100
opcode_in (WriteRegister r v) = pick (eqb (offset_of r) 0x7) v 0x100
opcode_in (ReadData p) = 0x100
opcode_in (WriteData p v) = 0x100

-- the access reads the register at an offset
abbrev pub reads_at : ℕ → Machine → Asked → Bool
reads_at offset m a = eqb (read_in (meaning m a)) offset

-- it gives a command; any command; one of 01's that move sectors: 20H 21H, 30H 31H, 40H 41H, C0H
abbrev pub gives : ℕ → Machine → Asked → Bool
gives opcode m a = eqb (opcode_in (meaning m a)) opcode

abbrev pub gives_any : Machine → Asked → Bool
gives_any m a = ltb (opcode_in (meaning m a)) 0x100

abbrev pub gives_sectors : Machine → Asked → Bool
gives_sectors m a = gives 0x20 m a || gives 0x21 m a || gives 0x30 m a || gives 0x31 m a || gives 0x40 m a || gives 0x41 m a || gives 0xC0 m a

-- it gives a command, or comes while one moves its data
abbrev pub in_command : Machine → Asked → Bool
in_command m a = gives_any m a || runs m.phase

-- a command ended in IDNF with this code; this access ends one so
abbrev pub idnf_in : ℕ → State → Bool
idnf_in code s = eqb s.registers.status error_status && (eqb s.registers.error IDNF && eqb s.code code)

abbrev pub ends_in_idnf : ℕ → Machine → Asked → Bool
ends_in_idnf code m a = in_command m a && idnf_in code (step m a).next.state
