-- 01, "Data": what of a word an access moves.
use Rattle.std.specs.Prelude.{ℕ, ◌+◌, ◌*◌, ◌/◌, ◌%◌, List, get_or, set, None, Option, Some}
use Rattle.maps.specs.declared.Port.{Port}
use Rattle.registers.specs.declared.Half.{Half}
use Rattle.registers.specs.declared.Transfer.{Transfer}
use Rattle.port.specs.declared.Part.{Part}
use Rattle.port.specs.declared.Part.TheVariants.{Low, High, Both}
use Rattle.port.specs.declared.Fill.TheVariants.{Begun, Full}
use Rattle.port.specs.declared.Fill.{Fill}

-- "A sector moves as 256 words, low byte first."
abbrev pub low_at : ℕ → ℕ
low_at words = 2 * words

abbrev pub high_at : ℕ → ℕ
high_at words = 2 * words + 1

-- "Within a word nothing, the low half or the high half has moved."
-- "A byte at 0 or 8 moves the low half if it hasn't moved, else the high. A byte at 9 moves the high half, else refusal 11";
-- a word moves both, where nothing has moved. Beside the part: whether the word is whole with it.
abbrev pub Take : Type 0
Take = Option (Part × Fill)

unfoldable pub take_of : Half → Port → Take
take_of Half.Nothing Port.Even = Some (Low, Begun)
take_of Half.Nothing Port.Odd = Some (High, Begun)
take_of Half.Nothing Port.Word = Some (Both, Full)
take_of Half.Low Port.Even = Some (High, Full)
take_of Half.Low Port.Odd = Some (High, Full)
take_of Half.Low Port.Word = None
take_of Half.High Port.Even = Some (Low, Full)
take_of Half.High Port.Odd = None
take_of Half.High Port.Word = None

-- the part of a word in the buffer
abbrev pub part_value : Part → ℕ → List ℕ → ℕ
part_value Low words buffer = get_or buffer (low_at words) 0
part_value High words buffer = get_or buffer (high_at words) 0
part_value Both words buffer = get_or buffer (low_at words) 0 + 256 * get_or buffer (high_at words) 0

-- the buffer with a part of a word written
abbrev pub with_part : Part → ℕ → ℕ → List ℕ → List ℕ
with_part Low words value buffer = set buffer (low_at words) (value % 256)
with_part High words value buffer = set buffer (high_at words) (value % 256)
with_part Both words value buffer = set (set buffer (low_at words) (value % 256)) (high_at words) (value / 256)

abbrev pub half_of : Part → Half
half_of Low = Half.Low
half_of High = Half.High
half_of Both = Half.Nothing

-- the transfer with a word begun, and at its next word
abbrev pub halved : Part → Transfer → Transfer
halved part t = record { load = t.load; half = half_of part; words = t.words }

abbrev pub next_word : Transfer → Transfer
next_word t = record { load = t.load; half = Half.Nothing; words = t.words + 1 }
