-- 01, "Commands": the table.
use Rattle.std.specs.Prelude.{ℕ, false, List, [], ◌∷◌, eqb, Ok, Err, Some, None}
use Rattle.ground.specs.Choice.{pick}
use Rattle.ground.specs.Left.{Left}
use Rattle.ground.specs.Sizes.{most_count}
use Rattle.ground.specs.Tables.{Numbered, At, Digit, lookup}
use Rattle.geometry.specs.Address.{seek, Sought}
use Rattle.geometry.specs.Shape.{reshaped, Reshaped}
use Rattle.identify.specs.declared.Facts.{Facts}
use Rattle.identify.specs.Words.{identify_bytes}
use Rattle.sectors.specs.Sectors.{StoreMarks}
use Rattle.registers.specs.declared.Load.TheVariants.{Buffer}
use Rattle.registers.specs.declared.State.{State}
use Rattle.registers.specs.declared.Core.{Core}
use Rattle.registers.specs.Status.{power_on_error}
use Rattle.registers.specs.Blocks.{single}
use Rattle.registers.specs.State.{with_interrupt, with_error, with_code, with_count, with_address, with_current, total_in}
use Rattle.registers.specs.Machine.{Machine, machine, with_core}
use Rattle.transfers.specs.declared.End.{End}
use Rattle.transfers.specs.Before.{address_end}
use Rattle.transfers.specs.declared.Order.TheVariants.{First}
use Rattle.commands.specs.declared.Command.{Command}
use Rattle.commands.specs.declared.Command.TheVariants.{Read, Write, Verify, Erase, Identify, ReadBuffer, WriteBuffer, SetGeometry, Diagnose, Recalibrate, Seek, Sense, SetMultiple, ReadMultiple, WriteMultiple, Other}
use Rattle.transfers.specs.Ends.{ended}
use Rattle.transfers.specs.Steps.{idle_with, ready, asked_for, read_sector, ask_sector}
use Rattle.commands.specs.Sweeps.{verify_run, erase_run}
use Rattle.commands.specs.Blocks.{block_set, blocks_read, blocks_asked}

-- the table's opcodes, row by row
abbrev pub command_table : List (Numbered Command)
command_table =
    At 0x20 Read
    ∷ At 0x21 Read
    ∷ At 0x30 Write
    ∷ At 0x31 Write
    ∷ At 0x40 Verify
    ∷ At 0x41 Verify
    ∷ At 0xC0 Erase
    ∷ At 0xEC Identify
    ∷ At 0xE4 ReadBuffer
    ∷ At 0xE8 WriteBuffer
    ∷ At 0x91 SetGeometry
    ∷ At 0x90 Diagnose
    ∷ Digit 1 Recalibrate
    ∷ Digit 7 Seek
    ∷ At 0x03 Sense
    -- 02, "One": "01's command table is amended for these three codes"
    ∷ At 0xC6 SetMultiple
    ∷ At 0xC4 ReadMultiple
    ∷ At 0xC5 WriteMultiple
    ∷ []

-- the row of an opcode; "others" are all that the table does not name
unfoldable pub command_of : ℕ → Command
command_of opcode = lookup command_table opcode Other

-- "Every command but 03H starts with Error and code 0."
abbrev pub started : State → State
started s = with_code 0 (with_error 0 s)

-- "Count 0 means 256."
unfoldable pub count_of : State → ℕ
count_of s = pick (eqb s.registers.count 0) most_count s.registers.count

abbrev pub facts_of : State → Facts
facts_of s = record { default = s.made.default; current = s.current; bad = s.bad }

-- 91H: "S := Count, H := low nibble+1; if S is 0 or H·S>N: ABRT, 21H, old geometry stays"
abbrev pub reshaped_ended : Reshaped → State → Core
reshaped_ended (Some g) s = ended End.Good (with_current g s)
reshaped_ended None s = ended End.BadGeometry s

abbrev pub geometry_ended : State → Core
geometry_ended s = reshaped_ended (reshaped s.registers.count s.registers.address.head (total_in s)) s

-- 90H: "Error 01H, Count 1, Sector 1, Cylinder and Drive/Head 0"
abbrev pub diagnosed : State → State
diagnosed s = with_address (record { sector = 1; low = 0; high = 0; head = 0 }) (with_count 1 (with_error power_on_error s))

-- 7XH: "address test; in CHS head and cylinder only"
abbrev pub sought_end : Sought → End
sought_end (Ok tt) = End.Good
sought_end (Err bad) = address_end bad

abbrev pub seek_ended : State → Core
seek_ended s = ended (sought_end (seek s.registers.address s.current (total_in s))) s

-- 03H: "Error := last code, which stays"
abbrev pub sense_ended : State → Core
sense_ended s = ended End.Good (with_error s.code s)

abbrev pub with_erased : Left Core StoreMarks → Machine → Machine
with_erased e m = machine e.outcome m.buffer e.next.store e.next.marks

-- what a command does; s is the state with Error and code 0. "Commands that move no sectors leave these registers, but for 90H."
abbrev pub obeyed : Command → State → Machine → Machine
-- 20H 21H: read sectors
obeyed Read s m = read_sector (count_of s) single (idle_with s m)
-- 30H 31H: write
obeyed Write s m = with_core (ask_sector (count_of s) single First s) m
-- 40H 41H: as read, no data; none of a run past the end
obeyed Verify s m = with_core (verify_run (count_of s) s m.marks) m
-- C0H: as write, storing FFH, no data; none of a run past the end
obeyed Erase s m = with_erased (erase_run (count_of s) s m.store m.marks) m
-- ECH: Identify, 512 bytes through the buffer
obeyed Identify s m = machine (ready Buffer s) (identify_bytes (facts_of s)) m.store m.marks
-- E4H E8H: read, write the 512-byte buffer
obeyed ReadBuffer s m = with_core (ready Buffer s) m
obeyed WriteBuffer s m = with_core (asked_for Buffer First s) m
-- 91H
obeyed SetGeometry s m = with_core (geometry_ended s) m
-- 90H: buffer, geometry, index, mask kept
obeyed Diagnose s m = with_core (ended End.Good (diagnosed s)) m
-- 1XH: nothing
obeyed Recalibrate s m = with_core (ended End.Good s) m
-- 7XH
obeyed Seek s m = with_core (seek_ended s) m
-- 03H: Error := last code, which stays
obeyed Sense s m = with_core (sense_ended m.state) m
-- C6H, C4H, C5H
obeyed SetMultiple s m = with_core (block_set s) m
obeyed ReadMultiple s m = blocks_read (count_of s) (idle_with s m)
obeyed WriteMultiple s m = with_core (blocks_asked (count_of s) s) m
-- others: ABRT, 20H
obeyed Other s m = with_core (ended End.NoSuchCommand s) m

-- "A Command write drops the transfer, keeps stored sectors, and starts afresh"; the interrupt mark is cleared "before the command's own effect"
abbrev pub dropped : Machine → Machine
dropped m = idle_with (with_interrupt false m.state) m

unfoldable pub command_given : ℕ → Machine → Machine
command_given opcode m = obeyed (command_of opcode) (started (dropped m).state) (dropped m)
