-- A part of a command's data, wherever the host stands in it: what may move next, what comes of it, and how much data there is.
use Rattle.std.specs.Prelude.{ℕ, ◌+◌, ◌*◌, ◌≤◌, Bool, true, false, List, ◌≡◌, length, replicate, Ok}
use Rattle.maps.specs.declared.Port.{Port}
use Rattle.transfers.specs.declared.Way.{Way}
use Rattle.transfers.specs.declared.Way.TheVariants.{In, Out}
use Rattle.card.specs.declared.Meaning.{Meaning}
use Rattle.card.specs.declared.Meaning.TheVariants.{ReadData, WriteData}
use Rattle.card.specs.Perform.{perform}
use Rattle.account.specs.Plain.{Plain, bytes_per_sector}
use Rattle.account.specs.CommandRows.{CommandRow}
use Rattle.account.specs.Table.{account}
use Rattle.account.specs.Notes.{Waiting, None, LowByte, HighByte, Notes, note, note_data}
use Rattle.account.specs.Host.{calm, Hosted}

-- ---- what may be chosen

-- "A byte at 0 or 8 moves the low half if it hasn't moved, else the high. A byte at 9 moves the high half"; a word moves where nothing has
abbrev pub fits : Waiting → Port → Bool
fits None port = true
fits (LowByte b) Port.Even = true
fits (LowByte b) Port.Odd = true
fits (LowByte b) Port.Word = false
fits (HighByte b) Port.Even = true
fits (HighByte b) Port.Odd = false
fits (HighByte b) Port.Word = false

-- its bytes
abbrev pub width : Port → ℕ
width Port.Even = 1
width Port.Odd = 1
width Port.Word = 2

abbrev pub most : Port → ℕ
most Port.Even = 0xFF
most Port.Odd = 0xFF
most Port.Word = 0xFFFF

-- a value that is written is one that its width holds; that of a read is not looked at
abbrev pub Small : Way → Port → ℕ → Type 0
Small In port v = Unit {0}
Small Out port v = v ≤ most port

-- ---- what comes of it

-- the bytes noted, that of a word at hand among them
abbrev pub waits : Waiting → ℕ
waits None = 0
waits (LowByte b) = 1
waits (HighByte b) = 1

abbrev pub noted : Notes → ℕ
noted q = length q.done + waits q.waiting

-- what moves: what was chosen in a write, what was answered in a read
abbrev pub moved : Way → ℕ → ℕ → ℕ
moved In answer value = answer
moved Out answer value = value

-- what an access to the data port means, the command's way
abbrev pub data_meaning : Way → Port → ℕ → Meaning
data_meaning In port v = ReadData port
data_meaning Out port v = WriteData port v

-- an access that means x, for a part of the data that the host chose: how it is answered, and what the host then has noted. That the card has moved it
-- too is seen by what it asks for afterwards, and by the account
pub record Taken (way : Way) (h : Hosted) (port : Port) (value : ℕ) (x : Meaning) : Type 0 where
  -- it is no command and no reset
  pub quiet : calm x ≡ true
  -- it is accepted
  pub answer : ℕ
  pub accepted : (perform x h.machine).outcome ≡ Ok answer
  -- and counts as the part chosen, one byte or two, and as nothing else
  pub part : note way x (perform x h.machine).outcome h.notes ≡ note_data port h.notes.waiting (moved way answer value) h.notes
  pub bytes : noted (note way x (perform x h.machine).outcome h.notes) ≡ noted h.notes + width port

-- ---- how much there is

-- 256 sectors, more than any command moves
unfoldable pub plenty : List ℕ
plenty = replicate (bytes_per_sector * 256) 0

-- the bytes that a command moves, by its account
unfoldable pub due : CommandRow → Plain → ℕ
due row p = length (account row p plenty).moved
