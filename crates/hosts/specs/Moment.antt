-- The store and the marks at any moment of a command, by the data that has moved: what a card keeps that is pulled there; and the number of marks that
-- are not 0, as the card keeps it.
use Rattle.std.specs.Prelude.{ℕ, min, suc, ◌+◌, ◌-◌, ◌*◌, ◌/◌, ◌<◌, true, List, [], ◌∷◌, ◌≡◌, eqb, length, take, drop, get_or}
use Rattle.ground.specs.Choice.{pick}
use Rattle.sectors.specs.Sectors.{StoreMarks}
use Rattle.registers.specs.Machine.{Machine}
use Rattle.card.specs.declared.Meaning.{Meaning}
use Rattle.card.specs.Access.{Asked}
use Rattle.card.specs.Perform.{perform}
use Rattle.account.specs.Plain.{Plain, bytes_per_sector}
use Rattle.account.specs.Addressed.{Addressed, At, Bad}
use Rattle.account.specs.CommandRows.{CommandRow, Reads, Writes, Verifies, Erases, Identifies, ReadsBuffer, WritesBuffer, SetsGeometry, Diagnoses, Recalibrates, Seeks, Senses, SetsMultiple, ReadsMultiple, WritesMultiple, Others}
use Rattle.account.specs.Course.{course_of}
use Rattle.account.specs.Sweeps.{write_sweep}
use Rattle.account.specs.WholeSectors.{replaced, cleared, bad_left}
use Rattle.account.specs.Table.{asked, first, account}
use Rattle.account.specs.Host.{calm, meanings}
use Rattle.account.specs.Follows.{SameOutside}

-- none is a command or a reset: what `Goes` allows, and any such access when the card asks no more
abbrev pub CalmBy : Machine → List Meaning → Type 0
CalmBy m [] = Unit {0}
CalmBy m (x ∷ l) = (calm x ≡ true) × CalmBy (perform x m).next l

abbrev pub Calm : Machine → List Asked → Type 0
Calm m l = CalmBy m (meanings m l)

abbrev pub store_marks_of : Plain → StoreMarks
store_marks_of p = record { store = p.store; marks = p.marks; bad = p.bad }

-- "a sector is stored, and its mark set to 0, at its last byte only": as many as have moved whole, but none from the one on where the sweep stops
abbrev pub whole_of : List ℕ → ℕ
whole_of moved = length moved / bytes_per_sector

-- with the first sector at index i
abbrev pub stored_of : ℕ → Plain → List ℕ → ℕ
stored_of i p moved = min (whole_of moved) (write_sweep (course_of p) p.marks i (asked p.registers.count)).done

-- k sectors from index i, in the order of the sweep, each with the host's bytes for it
abbrev pub stored_from : ℕ → ℕ → Plain → List ℕ → StoreMarks
stored_from i k p moved = record { store = replaced i k moved p.store; marks = cleared i k p.marks; bad = bad_left i k p }

unfoldable pub written_so_far : Addressed → Plain → List ℕ → StoreMarks
written_so_far (At i) p moved = stored_from i (stored_of i p moved) p moved
written_so_far (Bad code) p moved = store_marks_of p

-- a write's sectors one by one, C5H's too where there is a block, Erase's at once, and no other command's
unfoldable pub so_far : CommandRow → Plain → List ℕ → StoreMarks
so_far Reads p moved = store_marks_of p
so_far Writes p moved = written_so_far (first p) p moved
so_far Verifies p moved = store_marks_of p
so_far Erases p moved = store_marks_of (account Erases p moved).left
so_far Identifies p moved = store_marks_of p
so_far ReadsBuffer p moved = store_marks_of p
so_far WritesBuffer p moved = store_marks_of p
so_far SetsGeometry p moved = store_marks_of p
so_far Diagnoses p moved = store_marks_of p
so_far Recalibrates p moved = store_marks_of p
so_far Seeks p moved = store_marks_of p
so_far Senses p moved = store_marks_of p
so_far SetsMultiple p moved = store_marks_of p
so_far ReadsMultiple p moved = store_marks_of p
so_far WritesMultiple p moved = pick (eqb p.block 0) (store_marks_of p) (written_so_far (first p) p moved)
so_far Others p moved = store_marks_of p

-- how many of a list of marks are not 0
unfoldable pub not_sound : List ℕ → ℕ
not_sound [] = 0
not_sound (mark ∷ marks) = pick (eqb mark 0) (not_sound marks) (suc (not_sound marks))

-- the k sectors from index i hold the first 512 * k bytes that moved, in order, and have mark 0; every other byte and mark is as it was; the number of
-- marks that are not 0 is down by those of these sectors
pub record FirstStored (i k : ℕ) (p : Plain) (moved : List ℕ) (x : StoreMarks) : Type 0 where
  pub stored : (n : ℕ) → n < bytes_per_sector * k → get_or x.store (bytes_per_sector * i + n) 0 ≡ get_or moved n 0
  pub marked : (j : ℕ) → j < k → get_or x.marks (i + j) 0 ≡ 0
  pub others : SameOutside (bytes_per_sector * i) (bytes_per_sector * (i + k)) p.store x.store
  pub other_marks : SameOutside i (i + k) p.marks x.marks
  pub counted : x.bad ≡ p.bad - not_sound (take k (drop i p.marks))
