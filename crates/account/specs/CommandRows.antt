-- 01, "Commands", the left column of the table: the codes of each row.
use Rattle.std.specs.Prelude.{ℕ, Bool, ◌&&◌, List, [], ◌∷◌, leb}
use Rattle.ground.specs.Choice.{pick}

-- the rows, E4H and E8H apart
pub data CommandRow : Type 0 where
  Reads : CommandRow
  Writes : CommandRow
  Verifies : CommandRow
  Erases : CommandRow
  Identifies : CommandRow
  ReadsBuffer : CommandRow
  WritesBuffer : CommandRow
  SetsGeometry : CommandRow
  Diagnoses : CommandRow
  Recalibrates : CommandRow
  Seeks : CommandRow
  Senses : CommandRow
  SetsMultiple : CommandRow
  ReadsMultiple : CommandRow
  WritesMultiple : CommandRow
  Others : CommandRow

-- a row's first code and its last
pub record Codes : Type 0 where
  pub first : ℕ
  pub last : ℕ
  pub row : CommandRow

abbrev pub codes : ℕ → ℕ → CommandRow → Codes
codes first last row = record { first = first; last = last; row = row }

-- "20H 21H", "30H 31H", "40H 41H", "C0H", "ECH", "E4H E8H", "91H", "90H", "1XH", "7XH", "03H"; 02, "One": "Set Multiple (C6H), Read Multiple (C4H) and
-- Write Multiple (C5H)"
unfoldable pub rows : List Codes
rows =
    codes 0x20 0x21 Reads
    ∷ codes 0x30 0x31 Writes
    ∷ codes 0x40 0x41 Verifies
    ∷ codes 0xC0 0xC0 Erases
    ∷ codes 0xEC 0xEC Identifies
    ∷ codes 0xE4 0xE4 ReadsBuffer
    ∷ codes 0xE8 0xE8 WritesBuffer
    ∷ codes 0x91 0x91 SetsGeometry
    ∷ codes 0x90 0x90 Diagnoses
    ∷ codes 0x10 0x1F Recalibrates
    ∷ codes 0x70 0x7F Seeks
    ∷ codes 0x03 0x03 Senses
    ∷ codes 0xC6 0xC6 SetsMultiple
    ∷ codes 0xC4 0xC4 ReadsMultiple
    ∷ codes 0xC5 0xC5 WritesMultiple
    ∷ []

abbrev pub has : Codes → ℕ → Bool
has c v = leb c.first v && leb v c.last

-- the row that has the code; with none, "others"
unfoldable pub row_in : List Codes → ℕ → CommandRow
row_in [] v = Others
row_in (c ∷ l) v = let rest = row_in l v in pick (has c v) c.row rest

abbrev pub row_of : ℕ → CommandRow
row_of v = row_in rows v
