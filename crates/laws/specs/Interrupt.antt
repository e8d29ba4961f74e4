-- 01, "Interrupt mark". What sets and what clears it is read off the access, the command table's row, the two resets' bits, Status and Sector Count before
-- and after, and, where sectors move in blocks, the place and the stride of the running transfer (`last_of_block`, Acts.antt); that these are right,
-- counted from the command's first sector, is `marks_so_far` for C4H and C5H, and `marks-singly` for 20H and 30H (crates/blocks/proofs/ByBlock.antt).
use Rattle.std.specs.Prelude.{◌≡◌, Bool, true, false, not, ◌&&◌, ◌||◌, eqb}
use Rattle.registers.specs.declared.State.{State}
use Rattle.laws.specs.Bits.{status_idle, status_data, bit_seven, bit_two}
use Rattle.commands.specs.declared.Command.{Command}
use Rattle.commands.specs.declared.Command.TheVariants.{Read, Write, Verify, Erase, Identify, ReadBuffer, WriteBuffer, SetGeometry, Diagnose, Recalibrate, Seek, Sense, SetMultiple, ReadMultiple, WriteMultiple, Other}
use Rattle.laws.specs.Acts.{Act, StatusRead, CommandWrite, ControlWrite, OptionWrite, DataRead, DataWrite, NoMatter}

-- ---- what a host sees

-- Status 58H: a sector or the buffer is ready, or asked for
abbrev pub drq_set : State → Bool
drq_set s = eqb s.registers.status status_data

-- another sector's turn: Sector Count holds the sectors left, the present one included
abbrev pub another : State → State → Bool
another s n = not (eqb s.registers.count n.registers.count)

-- the rows that read data
abbrev pub reads_row : Command → Bool
reads_row Read = true
reads_row Write = false
reads_row Verify = false
reads_row Erase = false
reads_row Identify = true
reads_row ReadBuffer = true
reads_row WriteBuffer = false
reads_row SetGeometry = false
reads_row Diagnose = false
reads_row Recalibrate = false
reads_row Seek = false
reads_row Sense = false
reads_row SetMultiple = false
reads_row ReadMultiple = true
reads_row WriteMultiple = false
reads_row Other = false

-- ---- "set when a read sector or buffer becomes ready"; 02, "One": "once per block": after the last sector of the block before

abbrev pub becomes_ready : Act → State → State → Bool
becomes_ready StatusRead s n = false
becomes_ready (CommandWrite c) s n = drq_set n && reads_row c
becomes_ready (ControlWrite v) s n = false
becomes_ready (OptionWrite v) s n = false
becomes_ready (DataRead last) s n = drq_set s && (drq_set n && (another s n && last))
becomes_ready (DataWrite last) s n = false
becomes_ready NoMatter s n = false

-- "when a second or later write sector is asked for"; by blocks as above
abbrev pub asked_again : Act → State → State → Bool
asked_again StatusRead s n = false
asked_again (CommandWrite c) s n = false
asked_again (ControlWrite v) s n = false
asked_again (OptionWrite v) s n = false
asked_again (DataRead last) s n = false
asked_again (DataWrite last) s n = drq_set s && (drq_set n && (another s n && last))
asked_again NoMatter s n = false

-- "and at each command end": a Command write after which no data is asked for, or the data access after which none is any more
abbrev pub command_ends : Act → State → State → Bool
command_ends StatusRead s n = false
command_ends (CommandWrite c) s n = not (drq_set n)
command_ends (ControlWrite v) s n = false
command_ends (OptionWrite v) s n = false
command_ends (DataRead last) s n = drq_set s && not (drq_set n)
command_ends (DataWrite last) s n = drq_set s && not (drq_set n)
command_ends NoMatter s n = false

-- "except a good end of reading data": Status 50H after a data read
abbrev pub good_reading : Act → State → Bool
good_reading StatusRead n = false
good_reading (CommandWrite c) n = false
good_reading (ControlWrite v) n = false
good_reading (OptionWrite v) n = false
good_reading (DataRead last) n = eqb n.registers.status status_idle
good_reading (DataWrite last) n = false
good_reading NoMatter n = false

unfoldable pub sets : Act → State → State → Bool
sets x s n = becomes_ready x s n || (asked_again x s n || (command_ends x s n && not (good_reading x n)))

-- ---- "Cleared by entering or leaving a reset, by reading Status and by a Command write"

abbrev pub differ : Bool → Bool → Bool
differ true b = not b
differ false b = b

unfoldable pub clears : Act → State → Bool
clears StatusRead s = true
clears (CommandWrite c) s = true
-- bit 2 is written unlike it was held
clears (ControlWrite v) s = differ (bit_two v) s.control.held
-- bit 7 is written unlike it was
clears (OptionWrite v) s = differ (bit_seven v) (bit_seven s.option)
clears (DataRead last) s = false
clears (DataWrite last) s = false
clears NoMatter s = false

-- the interrupt mark after an access: it is cleared "before the command's own effect"
abbrev pub InterruptRule : Act → State → State → Type 0
InterruptRule x s n = n.interrupt ≡ (sets x s n || (s.interrupt && not (clears x s)))
