-- What the host notes of the data, by its accesses and their answers.
use Rattle.std.specs.Prelude.{ℕ, ◌/◌, ◌%◌, List, [], ◌∷◌, ◌++◌, Ok, Err}
use Rattle.maps.specs.declared.Port.{Port}
use Rattle.transfers.specs.declared.Way.{Way}
use Rattle.transfers.specs.declared.Way.TheVariants.{In, Out}
use Rattle.card.specs.declared.Meaning.{Meaning}
use Rattle.card.specs.declared.Meaning.TheVariants.{TupleByte, ReadOption, WriteOption, ReadRegister, WriteRegister, ReadData, WriteData}
use Rattle.account.specs.CommandRows.{CommandRow, Reads, Writes, Verifies, Erases, Identifies, ReadsBuffer, WritesBuffer, SetsGeometry, Diagnoses, Recalibrates, Seeks, Senses, SetsMultiple, ReadsMultiple, WritesMultiple, Others}
use Rattle.answers.specs.Answers.{Outcome}

-- of the word at hand: nothing yet, its low byte, or its high byte
pub data Waiting : Type 0 where
  None : Waiting
  LowByte : ℕ → Waiting
  HighByte : ℕ → Waiting

-- the bytes of the whole words so far, in order of place, and the word at hand
pub record Notes : Type 0 where
  pub done : List ℕ
  pub waiting : Waiting

abbrev pub no_notes : Notes
no_notes = record { done = []; waiting = None }

abbrev pub whole : ℕ → ℕ → Notes → Notes
whole low high q = record { done = q.done ++ (low ∷ high ∷ []); waiting = None }

abbrev pub half : Waiting → Notes → Notes
half w q = record { done = q.done; waiting = w }

-- an accepted data access: a word is both bytes, low first; a byte at 0 or 8 is the low one, or the high one where the low one has moved; a byte at 9 is
-- the high one
abbrev pub note_data : Port → Waiting → ℕ → Notes → Notes
note_data Port.Word None v q = whole (v % 256) (v / 256) q
note_data Port.Word (LowByte b) v q = q
note_data Port.Word (HighByte b) v q = q
note_data Port.Even None v q = half (LowByte v) q
note_data Port.Even (LowByte b) v q = whole b v q
note_data Port.Even (HighByte b) v q = whole v b q
note_data Port.Odd None v q = half (HighByte v) q
note_data Port.Odd (LowByte b) v q = whole b v q
note_data Port.Odd (HighByte b) v q = q

-- what was read, if the access was not refused; and what was written
abbrev pub note_read : Outcome → Port → Notes → Notes
note_read (Ok v) port q = note_data port q.waiting v q
note_read (Err r) port q = q

-- (a byte has eight bits)
abbrev pub sent : Port → ℕ → ℕ
sent Port.Even v = v % 256
sent Port.Odd v = v % 256
sent Port.Word v = v

abbrev pub note_written : Outcome → Port → ℕ → Notes → Notes
note_written (Ok n) port v q = note_data port q.waiting (sent port v) q
note_written (Err r) port v q = q

-- only data that moves the command's way is noted
unfoldable pub note : Way → Meaning → Outcome → Notes → Notes
note way (Meaning.Refused r) o q = q
note way (TupleByte b) o q = q
note way ReadOption o q = q
note way (WriteOption v) o q = q
note way (ReadRegister r) o q = q
note way (WriteRegister r v) o q = q
note In (ReadData port) o q = note_read o port q
note In (WriteData port v) o q = q
note Out (ReadData port) o q = q
note Out (WriteData port v) o q = note_written o port v q

-- the way of a command's data; for a command without data either will do
abbrev pub way_of : CommandRow → Way
way_of Reads = In
way_of Writes = Out
way_of Verifies = In
way_of Erases = Out
way_of Identifies = In
way_of ReadsBuffer = In
way_of WritesBuffer = Out
way_of SetsGeometry = In
way_of Diagnoses = In
way_of Recalibrates = In
way_of Seeks = In
way_of Senses = In
way_of SetsMultiple = In
way_of ReadsMultiple = In
way_of WritesMultiple = Out
way_of Others = In
