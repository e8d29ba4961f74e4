-- Whole sectors of a lent store: sector i is the 512 bytes from 512 times i. A sector that is not there is not read and not stored.
use Rattle.std.specs.Prelude.{ℕ, ◌+◌, ◌*◌, ◌/◌, List, ◌++◌, ltb, length, set, get_or, take, drop}
use Rattle.ground.specs.Choice.{pick}
use Rattle.ground.specs.Sizes.{sector_bytes}
use Rattle.sectors.specs.Marks.{lowered}

-- the bytes of sector i
unfoldable pub sector_of : List ℕ → ℕ → List ℕ
sector_of store i = take sector_bytes (drop (sector_bytes * i) store)

-- the store with sector i replaced
unfoldable pub with_sector : List ℕ → ℕ → List ℕ → List ℕ
with_sector store i bytes = take (sector_bytes * i) store ++ (bytes ++ drop (sector_bytes * i + sector_bytes) store)

-- the buffer once sector i was read into it
unfoldable pub buffer_read : List ℕ → ℕ → List ℕ → List ℕ
buffer_read store i buffer = pick (ltb i (length store / sector_bytes)) (sector_of store i) buffer

-- a store, its marks, and the number of them that are not 0, as the card keeps it
pub record StoreMarks : Type 0 where
  pub store : List ℕ
  pub marks : List ℕ
  pub bad : ℕ

abbrev pub store_marks : List ℕ → List ℕ → ℕ → StoreMarks
store_marks s m b = record { store = s; marks = m; bad = b }

-- 01, "Commands": a sector is stored, and its mark set to 0; 02, "Eight": "writes and Erase can lower it", where that mark was not 0
unfoldable pub stored : StoreMarks → ℕ → List ℕ → StoreMarks
stored k i bytes =
    pick (ltb i (length k.store / sector_bytes))
    (pick (ltb i (length k.marks)) (store_marks (with_sector k.store i bytes) (set k.marks i 0) (lowered (get_or k.marks i 0) k.bad)) k)
    k
