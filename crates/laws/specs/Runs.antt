-- 02, "Six": "Erase and Verify use it: a run past the end ends before its first sector with IDNF, 2FH, the registers unchanged." Its opcodes, Count and numbers
-- are said anew: a law that took the card's own would share a slip of theirs. The room is that of the address decision, which geometry's laws of the next
-- address and the account hold.
use Rattle.std.specs.Prelude.{ℕ, ◌+◌, ◌<◌, Bool, true, ◌||◌, eqb}
use Rattle.ground.specs.Choice.{pick}
use Rattle.geometry.specs.Address.{room_of}
use Rattle.registers.specs.declared.State.{State}
use Rattle.registers.specs.State.{with_status, with_error, with_code, with_interrupt, total_in}
use Rattle.registers.specs.Machine.{Machine}
use Rattle.transfers.specs.Steps.{idle_with}
use Rattle.laws.specs.Bits.{status_error}

-- "C0H and 40H/41H"
abbrev pub runs : ℕ → Bool
runs opcode = eqb opcode 0xC0 || (eqb opcode 0x40 || eqb opcode 0x41)

-- "Count 0 means 256."
abbrev pub sectors_asked : ℕ → ℕ
sectors_asked count = pick (eqb count 0) 256 count

-- a run from index i whose last sector is not in the room: N in LBA, the current capacity in CHS
abbrev pub Past : State → ℕ → Type 0
Past s i = room_of s.registers.address s.current (total_in s) < i + sectors_asked s.registers.count

-- all that is changed: Status 51H, Error IDNF, code 2FH, the interrupt mark set; and no transfer runs
abbrev pub past_ended : Machine → Machine
past_ended m = idle_with (with_interrupt true (with_code 0x2F (with_error 0x10 (with_status status_error m.state)))) m
