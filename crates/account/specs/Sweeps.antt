-- The sector commands: "read sectors", "write", "as read, no data", "as write, storing FFH (H), no data", in whole sectors from a first index.
use Rattle.std.specs.Prelude.{ℕ, zero, suc, ◌+◌, ◌-◌, ◌%◌, Bool, not, ◌||◌, List, ltb, leb, eqb, get_or}
use Rattle.ground.specs.Choice.{pick}
use Rattle.account.specs.Numbers.{code_cylinder_or_lba}
use Rattle.account.specs.Plain.{Plain, with_buffer, with_store, with_place, Finish, Well, NotFound, Unreadable, WriteFault, Aborted, ends, Account}
use Rattle.account.specs.Course.{Course, named}
use Rattle.account.specs.WholeSectors.{sectors_from, last_sector, first_sectors, last_sectors, replaced, blanked, cleared, bad_left}

-- ---- which sector fails first, and why

-- sectors one after the other: how many are done, how many are not, the index where it stopped, and how it ended
pub record Sweep : Type 0 where
  pub done : ℕ
  pub left : ℕ
  pub stop : ℕ
  pub finish : Finish

abbrev pub one_more : Sweep → Sweep
one_more r = record { done = suc r.done; left = r.left; stop = r.stop; finish = r.finish }

abbrev pub stopped : Finish → ℕ → ℕ → Sweep
stopped e n i = record { done = 0; left = n; stop = i; finish = e }

-- sector i, with n left, by its tests: it passes, or the sweep stops there
abbrev pub tried : Finish → ℕ → ℕ → Sweep → Sweep
tried Well n i rest = one_more rest
tried (NotFound code) n i rest = stopped (NotFound code) n i
tried Unreadable n i rest = stopped Unreadable n i
tried WriteFault n i rest = stopped WriteFault n i
tried (Aborted code) n i rest = stopped (Aborted code) n i

-- n sectors from index i
unfoldable pub sweep_from : (ℕ → Finish) → ℕ → ℕ → Sweep
sweep_from test i zero = stopped Well 0 i
sweep_from test i (suc n) = let rest = sweep_from test (i + 1) n in tried (test i) (suc n) i rest

-- "Marks (H): 0 sound, 1 unreadable, 2 can't be written. A mark above 2 … counts as 1."
unfoldable pub unreadable : ℕ → Bool
unreadable mark = not (eqb mark 0 || eqb mark 2)

unfoldable pub unwritable : ℕ → Bool
unwritable mark = eqb mark 2

-- "Address, then mark": a sector past the room is a bad cylinder or LBA, 2FH
unfoldable pub tests : (ℕ → Bool) → Finish → Course → List ℕ → ℕ → Finish
tests forbids e c marks i = pick (ltb i c.room) (pick (forbids (get_or marks i 0)) e Well) (NotFound code_cylinder_or_lba)

abbrev pub read_sweep : Course → List ℕ → ℕ → ℕ → Sweep
read_sweep c marks i n = sweep_from (tests unreadable Unreadable c marks) i n

abbrev pub write_sweep : Course → List ℕ → ℕ → ℕ → Sweep
write_sweep c marks i n = sweep_from (tests unwritable WriteFault c marks) i n

-- "On an error the registers name the failing sector and Count holds the sectors not done, modulo 256 … At a good end of a sector command Count
-- is 0 and the address is the last sector's."
abbrev pub last_named : Finish → ℕ → ℕ
last_named Well i = i - 1
last_named (NotFound code) i = i
last_named Unreadable i = i
last_named WriteFault i = i
last_named (Aborted code) i = i

abbrev pub sweep_ends : Course → Sweep → Plain → Plain
sweep_ends c r p = ends r.finish (with_place (r.left % 256) (named c (last_named r.finish r.stop)) p)

-- ---- n sectors from index i

-- 20H 21H: read sectors
abbrev pub read_done : Course → ℕ → Sweep → Plain → Account
read_done c i r p = record {
  moved = sectors_from p.store i r.done;
  left = sweep_ends c r (with_buffer (last_sector p.store i r.done p.buffer) p);
}

unfoldable pub read_sectors : Course → ℕ → ℕ → Plain → Account
read_sectors c i n p = read_done c i (read_sweep c p.marks i n) p

-- 30H 31H: write; the mark is tested at the last byte, so the data of a sector that "can't be written" has moved too
abbrev pub moved_by : Finish → ℕ → ℕ
moved_by Well k = k
moved_by (NotFound code) k = k
moved_by Unreadable k = k
moved_by WriteFault k = suc k
moved_by (Aborted code) k = k

abbrev pub write_done : Course → ℕ → Sweep → Plain → List ℕ → Account
write_done c i r p bytes = record {
  moved = first_sectors (moved_by r.finish r.done) bytes;
  left = sweep_ends c r (with_buffer (last_sectors (moved_by r.finish r.done) bytes p.buffer)
      (with_store (replaced i r.done bytes p.store) (cleared i r.done p.marks) (bad_left i r.done p) p));
}

unfoldable pub write_sectors : Course → ℕ → ℕ → Plain → List ℕ → Account
write_sectors c i n p bytes = write_done c i (write_sweep c p.marks i n) p bytes

-- 02, "Six", of Verify and Erase: n sectors from index i, where the room has them all; else "a run past the end ends before its first sector with IDNF,
-- 2FH, the registers unchanged"
abbrev pub whole_run : Course → ℕ → ℕ → Plain → Plain → Plain
whole_run c i n p run = pick (leb (i + n) c.room) run (ends (NotFound code_cylinder_or_lba) p)

-- 40H 41H: as read, no data
unfoldable pub verify_sectors : Course → ℕ → ℕ → Plain → Plain
verify_sectors c i n p = sweep_ends c (read_sweep c p.marks i n) p

-- C0H: as write, storing FFH, no data
abbrev pub erase_done : Course → ℕ → Sweep → Plain → Plain
erase_done c i r p = sweep_ends c r (with_store (blanked i r.done p.store) (cleared i r.done p.marks) (bad_left i r.done p) p)

unfoldable pub erase_sectors : Course → ℕ → ℕ → Plain → Plain
erase_sectors c i n p = erase_done c i (write_sweep c p.marks i n) p
