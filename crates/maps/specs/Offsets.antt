-- 01, "Maps": the offset of an address in the map of its space and index.
use Rattle.std.specs.Prelude.{ℕ, ◌+◌, ◌-◌, ◌%◌, eqb, leb, [], ◌∷◌, Option, Some, None}
use Rattle.ground.specs.Choice.{pick, within}
use Rattle.ground.specs.Tables.{Numbered, lookup}

-- an address's offset in its map; none at an address that the map does not list
abbrev pub Offset : Type 0
Offset = Option ℕ

-- Index 0, memory: 000H..3FFH by the low four bits; 400H..7FFH is data, even as offset 8, odd as offset 9.
unfoldable pub memory_at : ℕ → Offset
memory_at address =
    pick (leb address 0x3FF) (Some (address % 16))
    (pick (leb address 0x7FF) (Some (8 + address % 2))
    None)

-- Index 1, I/O 000H..7FFH by the low four bits.
unfoldable pub contiguous_at : ℕ → Offset
contiguous_at address = pick (leb address 0x7FF) (Some (address % 16)) None

-- first..last are offsets 0 and up, the two others E and F; nothing else is listed.
unfoldable pub window_at : ℕ → ℕ → ℕ → ℕ → ℕ → Offset
window_at first last alternate drive address =
    pick (within first last address) (Some (address - first))
    (pick (eqb address alternate) (Some 0xE)
    (pick (eqb address drive) (Some 0xF)
    None))

-- Index 2: 1F0H..1F7H, 3F6H, 3F7H. Index 3: 170H..177H, 376H, 377H. 3F6H/376H is offset E, 3F7H/377H offset F.
unfoldable pub io_at : ℕ → ℕ → Offset
io_at index address =
    lookup
    (Numbered.At 1 (contiguous_at address)
    ∷ Numbered.At 2 (window_at 0x1F0 0x1F7 0x3F6 0x3F7 address)
    ∷ Numbered.At 3 (window_at 0x170 0x177 0x376 0x377 address)
    ∷ [])
    index None

-- True IDE (H): 00H..07H first select; 16H, 17H are offsets E, F.
unfoldable pub offset_at : ℕ → ℕ → ℕ → Offset
offset_at space index address =
    lookup
    (Numbered.At 1 (pick (eqb index 0) (memory_at address) None)
    ∷ Numbered.At 2 (io_at index address)
    ∷ Numbered.At 3 (window_at 0x00 0x07 0x16 0x17 address)
    ∷ [])
    space None
