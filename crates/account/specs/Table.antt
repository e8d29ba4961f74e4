-- 01, "Commands", the table: the plain account of each row. It knows the card's registers, not how they are reached.
use Rattle.std.specs.Prelude.{ℕ, ◌+◌, ◌*◌, ◌/◌, ◌%◌, Bool, false, ◌||◌, List, ltb, eqb, take}
use Rattle.ground.specs.Choice.{pick}
use Rattle.geometry.specs.declared.Geometry.{Geometry}
use Rattle.account.specs.Numbers.{code_geometry, code_others}
use Rattle.account.specs.Plain.{Plain, bytes_per_sector, sectors_of, with_registers, with_current, with_block, with_buffer, with_error, starts, Finish, Well, NotFound, Aborted, ends, Account, silent, moving}
use Rattle.account.specs.CommandRows.{CommandRow, Reads, Writes, Verifies, Erases, Identifies, ReadsBuffer, WritesBuffer, SetsGeometry, Diagnoses, Recalibrates, Seeks, Senses, SetsMultiple, ReadsMultiple, WritesMultiple, Others}
use Rattle.account.specs.Addressed.{Addressed, At, Bad, selects_lba, bad_cylinder, bad_head, bad_lba, judged, addressed_by}
use Rattle.account.specs.Course.{course_of}
use Rattle.account.specs.Sweeps.{read_sectors, write_sectors, whole_run, verify_sectors, erase_sectors}
use Rattle.account.specs.Words.{identify_data}

-- "Count 0 means 256."
unfoldable pub asked : ℕ → ℕ
asked count = pick (eqb count 0) 256 count

-- N
abbrev pub total : Plain → ℕ
total p = sectors_of p.made.default

-- the sector that the registers name at the start
abbrev pub first : Plain → Addressed
first p = addressed_by p.registers.address p.current (total p)

-- a sector command: from the first index on, or the code ("Both are IDNF")
abbrev pub from_first {ℓ} : {A : Type ℓ} → Addressed → (Plain → A) → (ℕ → A) → Plain → A
from_first (At i) bad good p = good i
from_first (Bad code) bad good p = bad (ends (NotFound code) p)

abbrev pub reads : Plain → Account
reads p = from_first (first p) silent (λ i. read_sectors (course_of p) i (asked p.registers.count) p) p

abbrev pub writes : Plain → List ℕ → Account
writes p bytes = from_first (first p) silent (λ i. write_sectors (course_of p) i (asked p.registers.count) p bytes) p

abbrev pub verifies : Plain → Plain
verifies p =
    let n = asked p.registers.count in
    from_first (first p) (λ q. q) (λ i. whole_run (course_of p) i n p (verify_sectors (course_of p) i n p)) p

abbrev pub erases : Plain → Plain
erases p =
    let n = asked p.registers.count in
    from_first (first p) (λ q. q) (λ i. whole_run (course_of p) i n p (erase_sectors (course_of p) i n p)) p

-- 91H: "S := Count, H := low nibble+1; if S is 0 or H·S>N: ABRT, 21H, old geometry stays"; "current C = N div (H·S)"
abbrev pub shaped : ℕ → ℕ → ℕ → Geometry
shaped heads sectors n = record { cylinders = n / (heads * sectors); heads = heads; sectors = sectors }

unfoldable pub sets_geometry : ℕ → ℕ → Plain → Plain
sets_geometry sectors heads p = pick (eqb sectors 0 || ltb (total p) (heads * sectors)) (ends (Aborted code_geometry) p) (ends Well (with_current (shaped heads sectors (total p)) p))

-- 90H: "Error 01H, Count 1, Sector 1, Cylinder and Drive/Head 0; buffer, geometry, index, mask kept"
abbrev pub diagnoses : Plain → Plain
diagnoses p = ends Well (with_registers (record { status = p.registers.status; error = 0x01; count = 1; address = record { sector = 1; low = 0; high = 0; head = 0 } }) p)

-- 7XH: "address test; in CHS head and cylinder only"
unfoldable pub seeks : Plain → Finish
seeks p =
    pick (selects_lba p.registers.address)
    (judged false (bad_lba p.registers.address (total p)) NotFound Well)
    (judged (bad_head p.registers.address p.current) (bad_cylinder p.registers.address p.current) NotFound Well)

-- 03H: "Error := last code, which stays"
abbrev pub senses : Plain → Plain
senses p = ends Well (with_error p.code p)

-- C6H: "takes a block of 1, 2, 4, 8 or 16 sectors; other counts, 0 included, give ABRT with 20H and keep the old block"
unfoldable pub is_block : ℕ → Bool
is_block n = eqb n 1 || (eqb n 2 || (eqb n 4 || (eqb n 8 || eqb n 16)))

unfoldable pub sets_block : ℕ → Plain → Plain
sets_block n p = pick (is_block n) (ends Well (with_block n p)) (ends (Aborted code_others) p)

-- C4H, C5H: "before the first good C6H give the same"; after it "data, sectors and error places are those of 20H and 30H"
unfoldable pub behind_block : Plain → Account → Account
behind_block p run = pick (eqb p.block 0) (silent (ends (Aborted code_others) p)) run

-- the account of a row: p as the card stands, and the host's data
unfoldable pub account : CommandRow → Plain → List ℕ → Account
account Reads p bytes = reads (starts p)
account Writes p bytes = writes (starts p) bytes
account Verifies p bytes = silent (verifies (starts p))
account Erases p bytes = silent (erases (starts p))
-- "Identify, 512 bytes through the buffer"
account Identifies p bytes = moving (identify_data p) (silent (ends Well (with_buffer (identify_data p) (starts p))))
-- "read, write the 512-byte buffer"
account ReadsBuffer p bytes = moving p.buffer (silent (ends Well (starts p)))
account WritesBuffer p bytes = moving (take bytes_per_sector bytes) (silent (ends Well (with_buffer (take bytes_per_sector bytes) (starts p))))
account SetsGeometry p bytes = silent (sets_geometry p.registers.count (p.registers.address.head % 16 + 1) (starts p))
account Diagnoses p bytes = silent (diagnoses (starts p))
-- "nothing"
account Recalibrates p bytes = silent (ends Well (starts p))
account Seeks p bytes = silent (ends (seeks p) (starts p))
account Senses p bytes = silent (senses p)
account SetsMultiple p bytes = silent (sets_block p.registers.count (starts p))
account ReadsMultiple p bytes = behind_block (starts p) (reads (starts p))
account WritesMultiple p bytes = behind_block (starts p) (writes (starts p) bytes)
-- "others": "ABRT, 20H"
account Others p bytes = silent (ends (Aborted code_others) (starts p))
