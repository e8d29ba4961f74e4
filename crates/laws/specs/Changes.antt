-- The sectors that an access changes, whole. 01, "Commands": "a sector is stored, and its mark set to 0, at its last byte only; mark 2: ABRT and DWF";
-- C0H "as write, storing FFH (H), no data"; 02, "Six": "a run past the end ends before its first sector".
use Rattle.std.specs.Prelude.{ℕ, zero, suc, ◌<◌, ◌≡◌, List, [], ◌∷◌, ltb, length, get_or, replicate, Ok, Err, None, Some}
use Rattle.ground.specs.Choice.{pick}
use Rattle.geometry.specs.declared.Address.{Address}
use Rattle.geometry.specs.declared.Geometry.{Geometry}
use Rattle.geometry.specs.Address.{locate, Located}
use Rattle.geometry.specs.Next.{next_of}
use Rattle.sectors.specs.Marks.{writable}
use Rattle.sectors.specs.Sectors.{StoreMarks, stored}
use Rattle.maps.specs.declared.Port.{Port}
use Rattle.maps.specs.declared.Register.{Register}
use Rattle.maps.specs.declared.Register.TheVariants.{ErrorFeature, SectorCount, SectorNumber, CylinderLow, CylinderHigh, DriveHead, StatusCommand, AlternateControl, DriveAddress}
use Rattle.registers.specs.declared.Load.{Load}
use Rattle.registers.specs.declared.Load.TheVariants.{Sectors, Buffer}
use Rattle.registers.specs.declared.Transfer.{Transfer}
use Rattle.registers.specs.declared.Phase.{Phase}
use Rattle.registers.specs.declared.Phase.TheVariants.{Idle, DataIn, DataOut}
use Rattle.registers.specs.declared.State.{State}
use Rattle.registers.specs.State.{total_in, located_in}
use Rattle.registers.specs.Machine.{Machine}
use Rattle.transfers.specs.Before.{run_past}
use Rattle.port.specs.declared.Fill.TheVariants.{Begun, Full}
use Rattle.commands.specs.declared.Command.{Command}
use Rattle.commands.specs.declared.Command.TheVariants.{Read, Write, Verify, Erase, Identify, ReadBuffer, WriteBuffer, SetGeometry, Diagnose, Recalibrate, Seek, Sense, SetMultiple, ReadMultiple, WriteMultiple, Other}
use Rattle.port.specs.Halves.{take_of, with_part, Take}
use Rattle.commands.specs.Table.{count_of, command_of}
use Rattle.card.specs.declared.Meaning.{Meaning}
use Rattle.card.specs.declared.Meaning.TheVariants.{TupleByte, ReadOption, WriteOption, ReadRegister, WriteRegister, ReadData, WriteData}
use Rattle.geometry.specs.declared.BadAddress.{BadAddress}

-- "the 512-byte buffer", "A sector moves as 256 words", from 01 anew: a law that took the card's sizes would not speak against wrong ones
abbrev pub bytes_in_sector : ℕ
bytes_in_sector = 512

abbrev pub last_word_number : ℕ
last_word_number = 255

-- a sector and its 512 bytes
pub record Change : Type 0 where
  pub index : ℕ
  pub bytes : List ℕ

-- one after the other: the 512 bytes from 512 times the index, the mark set to 0, and the number of marks that are not 0 lowered if it was not
unfoldable pub changed : List Change → StoreMarks → StoreMarks
changed [] k = k
changed (c ∷ l) k = changed l (stored k c.index c.bytes)

-- each is one of the card's sectors, and whole
abbrev pub WholeSectors : ℕ → List Change → Type 0
WholeSectors total [] = Unit {0}
WholeSectors total (c ∷ l) = (c.index < total) × (length c.bytes ≡ bytes_in_sector) × WholeSectors total l

-- the sector of an address, where there is one and its mark lets it be written, and what comes after it
abbrev pub sector_changes : Located → List ℕ → List ℕ → List Change → List Change
sector_changes (Ok spot) marks bytes rest = pick (writable (get_or marks spot.index 0)) (record { index = spot.index; bytes = bytes } ∷ rest) []
sector_changes (Err BadAddress.HeadOrSector) marks bytes rest = []
sector_changes (Err BadAddress.Cylinder) marks bytes rest = []
sector_changes (Err BadAddress.Lba) marks bytes rest = []

-- C0H: sector after sector, until none is left or one cannot be written
unfoldable pub erasures : ℕ → Address → Geometry → ℕ → List ℕ → List Change
erasures zero a g total marks = []
erasures (suc n) a g total marks = sector_changes (locate a g total) marks (replicate bytes_in_sector 0xFF) (erasures n (next_of a g) g total marks)

-- 02, "Six": none of a run that is past the end
unfoldable pub run_erasures : ℕ → Address → Geometry → ℕ → List ℕ → List Change
run_erasures n a g total marks = pick (run_past n (locate a g total)) [] (erasures n a g total marks)

abbrev pub command_changes : Command → State → List ℕ → List Change
command_changes Read s marks = []
command_changes Write s marks = []
command_changes Verify s marks = []
command_changes Erase s marks = run_erasures (count_of s) s.registers.address s.current (total_in s) marks
command_changes Identify s marks = []
command_changes ReadBuffer s marks = []
command_changes WriteBuffer s marks = []
command_changes SetGeometry s marks = []
command_changes Diagnose s marks = []
command_changes Recalibrate s marks = []
command_changes Seek s marks = []
command_changes Sense s marks = []
command_changes SetMultiple s marks = []
command_changes ReadMultiple s marks = []
command_changes WriteMultiple s marks = []
command_changes Other s marks = []

-- a Command write in a Device Control hold has no effect
abbrev pub register_changes : Register → ℕ → Machine → List Change
register_changes ErrorFeature v m = []
register_changes SectorCount v m = []
register_changes SectorNumber v m = []
register_changes CylinderLow v m = []
register_changes CylinderHigh v m = []
register_changes DriveHead v m = []
register_changes StatusCommand v m = pick m.state.control.held [] (command_changes (command_of v) m.state m.marks)
register_changes AlternateControl v m = []
register_changes DriveAddress v m = []

-- the sector of the address registers, in a transfer of sectors and not of the buffer
abbrev pub load_changes : Load → List ℕ → Machine → List Change
load_changes Buffer bytes m = []
load_changes (Sectors left pace) bytes m = sector_changes (located_in m.state) m.marks bytes []

-- a write that makes the last of the 256 words whole stores the buffer, with what it writes in it
abbrev pub taken_changes : Take → ℕ → Transfer → Machine → List Change
taken_changes None v t m = []
taken_changes (Some (part, Begun)) v t m = []
taken_changes (Some (part, Full)) v t m = pick (ltb t.words last_word_number) [] (load_changes t.load (with_part part t.words v m.buffer) m)

abbrev pub phase_changes : Phase → Port → ℕ → Machine → List Change
phase_changes Idle port v m = []
phase_changes (DataIn t) port v m = []
phase_changes (DataOut t) port v m = taken_changes (take_of t.half port) v t m

unfoldable pub changes : Meaning → Machine → List Change
changes (Meaning.Refused r) m = []
changes (TupleByte b) m = []
changes ReadOption m = []
changes (WriteOption v) m = []
changes (ReadRegister r) m = []
changes (WriteRegister r v) m = register_changes r v m
changes (ReadData port) m = []
changes (WriteData port v) m = pick m.state.control.held [] (phase_changes m.phase port v m)
