-- Reads and writes of the data port: 01, "Data".
use Rattle.std.specs.Prelude.{ℕ, List, ltb, Ok, Err, None, Some}
use Rattle.ground.specs.Choice.{pick}
use Rattle.ground.specs.Left.{Left, leaving}
use Rattle.ground.specs.Sizes.{last_word}
use Rattle.answers.specs.declared.Refusal.{Refusal}
use Rattle.answers.specs.declared.Refusal.TheVariants.{HalfMoved}
use Rattle.maps.specs.declared.Port.{Port}
use Rattle.registers.specs.declared.Transfer.{Transfer}
use Rattle.registers.specs.declared.Phase.{Phase}
use Rattle.registers.specs.declared.Phase.TheVariants.{Idle, DataIn, DataOut}
use Rattle.registers.specs.Status.{busy_status}
use Rattle.registers.specs.Machine.{Machine, machine, core, with_core, with_buffer}
use Rattle.port.specs.declared.Part.{Part}
use Rattle.port.specs.declared.Fill.{Fill}
use Rattle.port.specs.declared.Fill.TheVariants.{Begun, Full}
use Rattle.port.specs.declared.Done.{Done}
use Rattle.port.specs.Halves.{take_of, part_value, with_part, halved, next_word, Take}
use Rattle.transfers.specs.Steps.{load_read, load_written, all_moved}
use Rattle.answers.specs.Answers.{Outcome}

-- what an access leaves: its outcome and the machine
abbrev pub Effect : Type 0
Effect = Left Outcome Machine

abbrev pub effect : Done → List ℕ → List ℕ → List ℕ → Effect
effect d buffer store marks = leaving d.outcome (machine d.core buffer store marks)

abbrev pub accepted : ℕ → Machine → Effect
accepted value m = leaving (Ok value) m

abbrev pub refused_with : Refusal → Machine → Effect
refused_with r m = leaving (Err r) m

abbrev pub with_phase : Phase → Machine → Machine
with_phase p m = with_core (core p m.state) m

-- ---- reading

-- a word is whole: the next one, or the last byte has gone
unfoldable pub word_read : Transfer → Machine → Machine
word_read t m = pick (ltb t.words last_word) (with_phase (DataIn (next_word t)) m) (load_read t.load (all_moved m))

-- a part has gone: the word is whole, or begun
abbrev pub part_read : Fill → Part → Transfer → Machine → Machine
part_read Full part t m = word_read t m
part_read Begun part t m = with_phase (DataIn (halved part t)) m

abbrev pub taken_read : Take → Transfer → Machine → Effect
taken_read None t m = refused_with HalfMoved m
taken_read (Some (part, fill)) t m = accepted (part_value part t.words m.buffer) (part_read fill part t m)

-- "Refusal 11 is given only for an access in the running transfer's direction. With no transfer that way, a read gives FFH or FFFFH …"
abbrev pub absent_value : Port → ℕ
absent_value Port.Even = 0xFF
absent_value Port.Odd = 0xFF
absent_value Port.Word = 0xFFFF

-- "reads of all offsets give 80H, data words 8080H"
abbrev pub busy_word : ℕ
busy_word = 0x8080

abbrev pub held_value : Port → ℕ
held_value Port.Even = busy_status
held_value Port.Odd = busy_status
held_value Port.Word = busy_word

abbrev pub phase_read : Phase → Port → Machine → Effect
phase_read Idle port m = accepted (absent_value port) m
phase_read (DataIn t) port m = taken_read (take_of t.half port) t m
phase_read (DataOut t) port m = accepted (absent_value port) m

unfoldable pub data_read : Port → Machine → Effect
data_read port m = pick m.state.control.held (accepted (held_value port) m) (phase_read m.phase port m)

-- ---- writing

unfoldable pub word_written : Transfer → Machine → Machine
word_written t m = pick (ltb t.words last_word) (with_phase (DataOut (next_word t)) m) (load_written t.load (all_moved m))

-- a part has come: the word is whole, or begun
abbrev pub part_written : Fill → Part → Transfer → Machine → Machine
part_written Full part t m = word_written t m
part_written Begun part t m = with_phase (DataOut (halved part t)) m

-- "Read sectors, Identify and writes pass through the same buffer, a written byte at once"
abbrev pub taken_written : Take → ℕ → Transfer → Machine → Effect
taken_written None value t m = refused_with HalfMoved m
taken_written (Some (part, fill)) value t m = accepted 0 (part_written fill part t (with_buffer (with_part part t.words value m.buffer) m))

-- "… and a write has no effect (H)"
abbrev pub phase_written : Phase → Port → ℕ → Machine → Effect
phase_written Idle port value m = accepted 0 m
phase_written (DataIn t) port value m = accepted 0 m
phase_written (DataOut t) port value m = taken_written (take_of t.half port) value t m

unfoldable pub data_written : Port → ℕ → Machine → Effect
data_written port value m = pick m.state.control.held (accepted 0 m) (phase_written m.phase port value m)
