-- A transfer's start, and what the last byte of a sector does: 01, "Commands" and "Interrupt mark".
use Rattle.std.specs.Prelude.{ℕ, ◌-◌, ◌%◌, Bool, true, List, eqb, Ok, Err}
use Rattle.ground.specs.Choice.{pick}
use Rattle.ground.specs.Left.{Left}
use Rattle.geometry.specs.Next.{next_of}
use Rattle.sectors.specs.Sectors.{StoreMarks, buffer_read}
use Rattle.registers.specs.declared.Half.TheVariants.{Nothing}
use Rattle.registers.specs.declared.Pace.{Pace}
use Rattle.registers.specs.declared.Load.{Load}
use Rattle.registers.specs.declared.Load.TheVariants.{Sectors, Buffer}
use Rattle.registers.specs.declared.Transfer.{Transfer}
use Rattle.registers.specs.declared.Phase.TheVariants.{Idle, DataIn, DataOut}
use Rattle.registers.specs.declared.State.{State}
use Rattle.registers.specs.declared.Core.{Core}
use Rattle.registers.specs.Status.{data_status}
use Rattle.registers.specs.Blocks.{pace_after}
use Rattle.registers.specs.State.{with_status, with_interrupt, with_count, with_address, with_bad}
use Rattle.registers.specs.Machine.{Machine, machine, core, with_core}
use Rattle.transfers.specs.declared.End.TheVariants.{Good}
use Rattle.transfers.specs.declared.Way.TheVariants.{In}
use Rattle.transfers.specs.declared.Order.{Order}
use Rattle.transfers.specs.declared.Order.TheVariants.{First, Later}
use Rattle.transfers.specs.Ends.{ended, reading_ended}
use Rattle.transfers.specs.Before.{address_test, sector_test, sector_stored, Tested}

-- a machine that runs no transfer
abbrev pub idle : State → List ℕ → List ℕ → List ℕ → Machine
idle s buffer store marks = machine (core Idle s) buffer store marks

-- the machine with this state and no transfer
abbrev pub idle_with : State → Machine → Machine
idle_with s m = idle s m.buffer m.store m.marks

-- the last byte of a load has moved: no transfer runs
abbrev pub all_moved : Machine → Machine
all_moved m = idle_with m.state m

abbrev pub new_transfer : Load → Transfer
new_transfer load = record { load = load; half = Nothing; words = 0 }

-- 02, "One": "The interrupt mark is then set once per block": whether a sector is the first of its block; the buffer is by itself
abbrev pub starts_block : Load → Bool
starts_block Buffer = true
starts_block (Sectors left pace) = eqb pace.place 0

-- "Interrupt mark: set when a read sector or buffer becomes ready, …"
abbrev pub interrupt_ready : Load → Bool → Bool
interrupt_ready load interrupt = pick (starts_block load) true interrupt

abbrev pub ready : Load → State → Core
ready load s = core (DataIn (new_transfer load)) (with_interrupt (interrupt_ready load s.interrupt) (with_status data_status s))

-- "… when a second or later write sector is asked for"
abbrev pub interrupt_asked : Order → Load → Bool → Bool
interrupt_asked First load interrupt = interrupt
interrupt_asked Later load interrupt = interrupt_ready load interrupt

abbrev pub asked_for : Load → Order → State → Core
asked_for load order s = core (DataOut (new_transfer load)) (with_interrupt (interrupt_asked order load s.interrupt) (with_status data_status s))

-- a sector is done: Count holds those left, and the address goes on where one is left. So "on an error the registers name the failing sector and
-- Count holds the sectors not done, modulo 256; those before it stay done. At a good end of a sector command Count is 0 and the address is the
-- last sector's."
unfoldable pub sector_done : ℕ → State → State
sector_done left s = pick (eqb left 0) (with_count 0 s) (with_count (left % 256) (with_address (next_of s.registers.address s.current) s))

-- ---- reading

-- a sector is to be read: it comes into the buffer, or a test fails ("a failed read, Verify and Erase leave it")
abbrev pub read_tested : Tested → ℕ → Pace → Machine → Machine
read_tested (Ok spot) left pace m = machine (ready (Sectors left pace) m.state) (buffer_read m.store spot.index m.buffer) m.store m.marks
read_tested (Err e) left pace m = with_core (ended e m.state) m

unfoldable pub read_sector : ℕ → Pace → Machine → Machine
read_sector left pace m = read_tested (sector_test In m.state m.marks) left pace m

-- the last byte has gone, and `left` sectors are still to do
unfoldable pub next_read : ℕ → Pace → Machine → Machine
next_read left pace m =
    pick (eqb left 0)
    (with_core (reading_ended (sector_done left m.state)) m)
    (read_sector left pace (idle_with (sector_done left m.state) m))

abbrev pub load_read : Load → Machine → Machine
load_read Buffer m = with_core (reading_ended m.state) m
load_read (Sectors left pace) m = next_read (left - 1) (pace_after pace) m

-- ---- writing

-- a sector is asked for, or its address fails
abbrev pub ask_tested : Tested → ℕ → Pace → Order → State → Core
ask_tested (Ok spot) left pace order s = asked_for (Sectors left pace) order s
ask_tested (Err e) left pace order s = ended e s

unfoldable pub ask_sector : ℕ → Pace → Order → State → Core
ask_sector left pace order s = ask_tested (address_test s) left pace order s

-- a sector is stored, and `left` are still to do
unfoldable pub next_asked : ℕ → Pace → State → Core
next_asked left pace s = pick (eqb left 0) (ended Good (sector_done left s)) (ask_sector left pace Later (sector_done left s))

abbrev pub core_written : Tested → ℕ → Pace → State → Core
core_written (Ok spot) left pace s = next_asked left pace s
core_written (Err e) left pace s = ended e s

abbrev pub written_by : Left Tested StoreMarks → ℕ → Pace → Machine → Machine
written_by k left pace m = machine (core_written k.outcome left pace (with_bad k.next.bad m.state)) m.buffer k.next.store k.next.marks

-- the last byte has come: "a sector is stored, and its mark set to 0, at its last byte only"
abbrev pub load_written : Load → Machine → Machine
load_written Buffer m = with_core (ended Good m.state) m
load_written (Sectors left pace) m = written_by (sector_stored m.state m.buffer m.store m.marks) (left - 1) (pace_after pace) m
