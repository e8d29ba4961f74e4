-- The two resets: SRESET (01, "Maps", Configuration Option) and Device Control bit 2 (01, "Registers").
use Rattle.std.specs.Prelude.{ℕ, ◌/◌, ◌%◌, Bool, true, false, List, eqb}
use Rattle.registers.specs.declared.Phase.{Phase}
use Rattle.registers.specs.declared.Phase.TheVariants.{Idle, DataIn, DataOut}
use Rattle.registers.specs.declared.State.{State}
use Rattle.registers.specs.declared.Core.{Core}
use Rattle.registers.specs.declared.resets.Turn.{Turn}
use Rattle.registers.specs.declared.resets.Turn.TheVariants.{Enter, Leave, Stay}
use Rattle.registers.specs.State.{with_status, with_interrupt, with_option, with_control, sreset_in}
use Rattle.registers.specs.Status.{idle_status}
use Rattle.registers.specs.Machine.{core}
use Rattle.registers.specs.PowerOn.{power_on, zeros}

-- what writing a reset's bit does: was the card held, is the bit set now
unfoldable pub turn_of : Bool → Bool → Turn
turn_of false true = Enter
turn_of true false = Leave
turn_of false false = Stay
turn_of true true = Stay

-- "A reset that ends one leaves Status 50H."
abbrev pub rest_status : Phase → ℕ → ℕ
rest_status Idle status = status
rest_status (DataIn t) status = idle_status
rest_status (DataOut t) status = idle_status

-- a reset is entered: the transfer ends, and the interrupt mark is "cleared by entering or leaving a reset"
abbrev pub entered : Phase → State → State
entered p s = with_interrupt false (with_status (rest_status p s.registers.status) s)

-- "Bit 7 set holds the card and ends any transfer; clearing it after that is power-on with the index just written."
unfoldable pub option_turned : Turn → ℕ → Phase → State → Core
option_turned Enter v p s = core Idle (with_option v (entered p s))
option_turned Leave v p s = core Idle (power_on s.made s.bad v)
option_turned Stay v p s = core p (with_option v s)

-- power-on: buffer zeros
unfoldable pub buffer_turned : Turn → List ℕ → List ℕ
buffer_turned Enter b = b
buffer_turned Leave b = zeros
buffer_turned Stay b = b

abbrev pub option_turn : ℕ → State → Turn
option_turn v s = turn_of (sreset_in s.option) (sreset_in v)

-- what a write of the Configuration Option Register leaves, and what it leaves in the buffer
abbrev pub option_core : ℕ → Phase → State → Core
option_core v p s = option_turned (option_turn v s) v p s

abbrev pub option_buffer : ℕ → State → List ℕ → List ℕ
option_buffer v s b = buffer_turned (option_turn v s) b

-- "Device Control bit 2 set: transfer ends … Clearing it gives the power-on registers, code 00H and default geometry; buffer and index
-- are kept, and bit 1 is as just written."
unfoldable pub control_turned : Turn → Bool → Phase → State → Core
control_turned Enter masked p s = core Idle (with_control (record { held = true; masked = masked }) (entered p s))
control_turned Leave masked p s = core Idle (with_control (record { held = false; masked = masked }) (power_on s.made s.bad s.option))
control_turned Stay masked p s = core p (with_control (record { held = s.control.held; masked = masked }) s)

abbrev pub bit_two : ℕ → Bool
bit_two v = eqb (v / 4 % 2) 1

abbrev pub bit_one : ℕ → Bool
bit_one v = eqb (v / 2 % 2) 1

-- "other bits are lost"
abbrev pub control_written : ℕ → Phase → State → Core
control_written v p s = control_turned (turn_of s.control.held (bit_two v)) (bit_one v) p s
