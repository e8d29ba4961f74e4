-- The card's state: changes of one part of it, and what is read off it.
use Rattle.std.specs.Prelude.{ℕ, ◌%◌, Bool, true, false, leb, Option, None, Some}
use Rattle.ground.specs.Choice.{pick}
use Rattle.geometry.specs.declared.Address.{Address}
use Rattle.geometry.specs.declared.Geometry.{Geometry}
use Rattle.geometry.specs.Limits.{total_of}
use Rattle.geometry.specs.Address.{locate, Located}
use Rattle.registers.specs.declared.Transfer.{Transfer}
use Rattle.registers.specs.declared.Phase.{Phase}
use Rattle.registers.specs.declared.Phase.TheVariants.{Idle, DataIn, DataOut}
use Rattle.registers.specs.declared.Registers.{Registers}
use Rattle.registers.specs.declared.Control.{Control}
use Rattle.registers.specs.declared.State.{State}

-- changes of one part of the state
abbrev pub with_registers : Registers → State → State
with_registers r s = record { made = s.made; current = s.current; registers = r; option = s.option; control = s.control; interrupt = s.interrupt; code = s.code; bad = s.bad; block = s.block }

abbrev pub with_current : Geometry → State → State
with_current g s = record { made = s.made; current = g; registers = s.registers; option = s.option; control = s.control; interrupt = s.interrupt; code = s.code; bad = s.bad; block = s.block }

abbrev pub with_option : ℕ → State → State
with_option v s = record { made = s.made; current = s.current; registers = s.registers; option = v; control = s.control; interrupt = s.interrupt; code = s.code; bad = s.bad; block = s.block }

abbrev pub with_control : Control → State → State
with_control k s = record { made = s.made; current = s.current; registers = s.registers; option = s.option; control = k; interrupt = s.interrupt; code = s.code; bad = s.bad; block = s.block }

abbrev pub with_interrupt : Bool → State → State
with_interrupt b s = record { made = s.made; current = s.current; registers = s.registers; option = s.option; control = s.control; interrupt = b; code = s.code; bad = s.bad; block = s.block }

abbrev pub with_code : ℕ → State → State
with_code n s = record { made = s.made; current = s.current; registers = s.registers; option = s.option; control = s.control; interrupt = s.interrupt; code = n; bad = s.bad; block = s.block }

abbrev pub with_bad : ℕ → State → State
with_bad n s = record { made = s.made; current = s.current; registers = s.registers; option = s.option; control = s.control; interrupt = s.interrupt; code = s.code; bad = n; block = s.block }

abbrev pub with_block : ℕ → State → State
with_block n s = record { made = s.made; current = s.current; registers = s.registers; option = s.option; control = s.control; interrupt = s.interrupt; code = s.code; bad = s.bad; block = n }

abbrev pub with_status : ℕ → State → State
with_status v s = with_registers (record { status = v; error = s.registers.error; count = s.registers.count; address = s.registers.address }) s

abbrev pub with_error : ℕ → State → State
with_error v s = with_registers (record { status = s.registers.status; error = v; count = s.registers.count; address = s.registers.address }) s

abbrev pub with_count : ℕ → State → State
with_count v s = with_registers (record { status = s.registers.status; error = s.registers.error; count = v; address = s.registers.address }) s

abbrev pub with_address : Address → State → State
with_address a s = with_registers (record { status = s.registers.status; error = s.registers.error; count = s.registers.count; address = a }) s

-- 01, "Maps": "Configuration Option: bit 7 SRESET, bit 6 stored, bits 5..0 index; bits 6..0 together are the map setting."
abbrev pub sreset_in : ℕ → Bool
sreset_in option = leb 128 option

abbrev pub index_in : ℕ → ℕ
index_in option = option % 64

-- whether a transfer runs
abbrev pub runs : Phase → Bool
runs Idle = false
runs (DataIn t) = true
runs (DataOut t) = true

-- the transfer that runs, whichever way it goes
abbrev pub transfer_of : Phase → Option Transfer
transfer_of Idle = None
transfer_of (DataIn t) = Some t
transfer_of (DataOut t) = Some t

-- 01, "Interrupt mark": "Each answer says if the line is up (mark set, bit 1 clear)"; "Bit 1 masks the interrupt line"
abbrev pub line_of : State → Bool
line_of s = pick s.control.masked false s.interrupt

-- N
abbrev pub total_in : State → ℕ
total_in s = total_of s.made.default

-- where the address registers point
abbrev pub located_in : State → Located
located_in s = locate s.registers.address s.current (total_in s)
