-- Whole sectors of the store, one after the other: read, replaced by the host's data, erased; their marks; and the number of bad sectors.
use Rattle.std.specs.Prelude.{ℕ, zero, suc, ◌+◌, ◌-◌, ◌*◌, List, [], ◌++◌, eqb, take, drop, set, get_or, replicate}
use Rattle.ground.specs.Choice.{pick}
use Rattle.account.specs.Plain.{Plain, bytes_per_sector}

-- sector i; and the store with it replaced
abbrev pub sector_at : List ℕ → ℕ → List ℕ
sector_at store i = take bytes_per_sector (drop (bytes_per_sector * i) store)

abbrev pub put_sector : ℕ → List ℕ → List ℕ → List ℕ
put_sector i bytes store = take (bytes_per_sector * i) store ++ (bytes ++ drop (bytes_per_sector * (i + 1)) store)

-- k sectors from index i, one after the other; and the last of them, or what was in the buffer
unfoldable pub sectors_from : List ℕ → ℕ → ℕ → List ℕ
sectors_from store i zero = []
sectors_from store i (suc k) = sector_at store i ++ sectors_from store (i + 1) k

unfoldable pub last_sector : List ℕ → ℕ → ℕ → List ℕ → List ℕ
last_sector store i zero buffer = buffer
last_sector store i (suc k) buffer = last_sector store (i + 1) k (sector_at store i)

-- k times 512 bytes of the host's data; and the last 512 of them, or what was in the buffer
unfoldable pub first_sectors : ℕ → List ℕ → List ℕ
first_sectors zero bytes = []
first_sectors (suc k) bytes = take bytes_per_sector bytes ++ first_sectors k (drop bytes_per_sector bytes)

unfoldable pub last_sectors : ℕ → List ℕ → List ℕ → List ℕ
last_sectors zero bytes buffer = buffer
last_sectors (suc k) bytes buffer = last_sectors k (drop bytes_per_sector bytes) (take bytes_per_sector bytes)

-- the store with k sectors from index i replaced by the host's data, 512 bytes each
unfoldable pub replaced : ℕ → ℕ → List ℕ → List ℕ → List ℕ
replaced i zero bytes store = store
replaced i (suc k) bytes store = replaced (i + 1) k (drop bytes_per_sector bytes) (put_sector i (take bytes_per_sector bytes) store)

-- with k sectors from index i all FFH
unfoldable pub blanked : ℕ → ℕ → List ℕ → List ℕ
blanked i zero store = store
blanked i (suc k) store = blanked (i + 1) k (put_sector i (replicate bytes_per_sector 0xFF) store)

-- "… and its mark set to 0"
unfoldable pub cleared : ℕ → ℕ → List ℕ → List ℕ
cleared i zero marks = marks
cleared i (suc k) marks = cleared (i + 1) k (set marks i 0)

-- 02, "Eight": how many of k marks from index i are not 0; and the number that the card keeps, once these sectors are stored: "never below 0"
abbrev pub bad_at : ℕ → List ℕ → ℕ
bad_at i marks = pick (eqb (get_or marks i 0) 0) 0 1

unfoldable pub bad_from : ℕ → ℕ → List ℕ → ℕ
bad_from i zero marks = 0
bad_from i (suc k) marks = bad_at i marks + bad_from (i + 1) k marks

abbrev pub bad_left : ℕ → ℕ → Plain → ℕ
bad_left i k p = p.bad - bad_from i k p.marks
