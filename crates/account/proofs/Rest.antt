-- The plain account of the rest: what a card in the middle of a transfer still has to move, and how it will end. Each access keeps it.
use Prim.Native.Nat.{ℕ, suc, ◌+◌, ◌-◌, ◌*◌, ◌%◌, ◌≤◌, ◌<◌}
use mathlib.Core.Bool.{Bool, true, false}
use mathlib.Core.Path.{◌≡◌, refl, sym, ap, ◌∙◌}
use mathlib.Core.List.{List, [], ◌∷◌, ◌++◌, append_assoc}
use native.Mathlib.Omega.{arith}
use lib.ListN.{length, take, drop, set, get_or}
use Rattle.geometry.specs.Address.{index_of, locate, Located}
use Rattle.geometry.specs.Limits.{total_of}
use Rattle.registers.specs.declared.Pace.{Pace}
use Rattle.registers.specs.declared.Half.{Half}
use Rattle.registers.specs.declared.Load.{Load}
use Rattle.registers.specs.declared.Load.TheVariants.{Sectors, Buffer}
use Rattle.registers.specs.declared.Transfer.{Transfer}
use Rattle.registers.specs.declared.Phase.{Phase}
use Rattle.registers.specs.declared.Phase.TheVariants.{Idle, DataIn, DataOut}
use Rattle.registers.specs.declared.State.{State}
use Rattle.registers.specs.State.{sreset_in, located_in}
use Rattle.registers.specs.Machine.{Machine}
use Rattle.transfers.specs.declared.Way.{Way}
use Rattle.transfers.specs.declared.Way.TheVariants.{In, Out}
use Rattle.account.specs.Plain.{Plain, with_buffer, with_store, with_status, Finish, Well, NotFound, Unreadable, WriteFault, Aborted, ends, Account, silent, moving}
use Rattle.account.specs.Course.{Course, course_of, named}
use Rattle.account.specs.Sweeps.{Sweep, stopped, sweep_ends, unwritable, read_sectors, write_sectors}
use Rattle.account.specs.WholeSectors.{put_sector, bad_at}
use Rattle.account.specs.Host.{plain_of, plain_in}
use Rattle.account.specs.Notes.{Waiting, None, LowByte, HighByte, Notes}
use Rattle.account.specs.Claim.{AllBytes}
use Rattle.account.proofs.Seats.{Shaped, Seated, good_on}
use Rattle.account.proofs.Stored.{LentFor}

-- the sector at hand
abbrev pub located : Plain → Located
located p = locate p.registers.address p.current (total_of p.made.default)

abbrev pub here : State → ℕ
here s = index_of (located_in s)

-- a sector or the buffer has been read
unfoldable pub done_in : Load → Plain → Account
done_in Buffer p = silent (ends Well p)
done_in (Sectors left pace) p = read_sectors (course_of p) (index_of (located p) + 1) (left - 1) p

-- the bytes of sector i have come: its mark is tested, then it is stored
unfoldable pub stored_then : Bool → ℕ → ℕ → Course → Plain → List ℕ → List ℕ → Account
stored_then true left i c p b d = silent (sweep_ends c (stopped WriteFault left i) (with_buffer b p))
stored_then false left i c p b d = write_sectors c (i + 1) (left - 1) (with_buffer b (with_store (put_sector i b p.store) (set p.marks i 0) (p.bad - bad_at i p.marks) p)) d

-- b has been written, d is to come
unfoldable pub done_out : Load → Plain → List ℕ → List ℕ → Account
done_out Buffer p b d = silent (ends Well (with_buffer b p))
done_out (Sectors left pace) p b d = stored_then (unwritable (get_or p.marks (index_of (located p)) 0)) left (index_of (located p)) (course_of p) p b d

abbrev pub outcome : Plain → List ℕ → Account
outcome p l = record { moved = l; left = p }

-- d: the bytes that the host still has to write, from the start of the word at hand
unfoldable pub rest_at : Phase → Plain → List ℕ → Account
rest_at Idle p d = outcome p []
rest_at (DataIn t) p d = moving (drop (2 * t.words) p.buffer) (done_in t.load p)
rest_at (DataOut t) p d =
    moving (take (512 - 2 * t.words) d)
    (done_out t.load p (take (2 * t.words) p.buffer ++ take (512 - 2 * t.words) d) (drop (512 - 2 * t.words) d))

abbrev pub rest : Machine → List ℕ → Account
rest m d = rest_at m.phase (plain_of m) d

-- ---- what holds while a transfer runs

abbrev pub ByteWise : Way → List ℕ → Type 0
ByteWise In l = AllBytes l
ByteWise Out l = Unit {0}

-- what waits with the host is what stands in the buffer
abbrev pub Pending : Half → Waiting → ℕ → List ℕ → Type 0
Pending Half.Nothing None w b = Unit {0}
Pending Half.Nothing (LowByte v) w b = ⊥
Pending Half.Nothing (HighByte v) w b = ⊥
Pending Half.Low None w b = ⊥
Pending Half.Low (LowByte v) w b = v ≡ get_or b (2 * w) 0
Pending Half.Low (HighByte v) w b = ⊥
Pending Half.High None w b = ⊥
Pending Half.High (LowByte v) w b = ⊥
Pending Half.High (HighByte v) w b = v ≡ get_or b (2 * w + 1) 0

-- without buffer, store, marks and the number of bad sectors
abbrev pub bare : Plain → Plain
bare p = with_buffer [] (with_store [] [] 0 p)

-- a running sector transfer: a valid address, and Count agrees
abbrev pub Loaded : Load → Plain → Type 0
Loaded Buffer p = Unit {0}
Loaded (Sectors left pace) p =
    (located p ≡ good_on (course_of p) (index_of (located p))) × (1 ≤ left) × (p.registers.count ≡ left % 256) × (p.registers.address ≡ named (course_of p) (index_of (located p)))

-- the geometries, what is lent, and no reset
abbrev pub Ground : Way → Machine → Type 0
Ground way m =
    Shaped m.state.made m.state.current
    × LentFor (total_of m.state.made.default) m.store m.marks
    × ByteWise way m.store
    × (m.state.control.held ≡ false)
    × (sreset_in m.state.option ≡ false)

abbrev pub Running : Way → Transfer → Plain → Waiting → Type 0
Running way t p q = (t.words < 256) × (length p.buffer ≡ 512) × ByteWise way p.buffer × Pending t.half q t.words p.buffer × Loaded t.load (bare p)

-- what waits agrees with the phase
abbrev pub Waits : Way → Phase → Plain → Waiting → Type 0
Waits In Idle p q = q ≡ None
Waits In (DataIn t) p q = Running In t p q
Waits In (DataOut t) p q = ⊥
Waits Out Idle p q = q ≡ None
Waits Out (DataIn t) p q = ⊥
Waits Out (DataOut t) p q = Running Out t p q

pub record Rel (way : Way) (plain : List ℕ → Account) (m : Machine) (q : Notes) : Type 0 where
  pub account : (d : List ℕ) → plain (q.done ++ d) ≡ moving q.done (rest m d)
  pub ground : Ground way m
  pub waits : Waits way m.phase (plain_of m) q.waiting

-- Status in a transfer is 58H, which no end keeps
pub ends_status : (e : Finish) (v : ℕ) (p : Plain) → ends e (with_status v p) ≡ ends e p
ends_status Well v p = refl
ends_status (NotFound code) v p = refl
ends_status Unreadable v p = refl
ends_status WriteFault v p = refl
ends_status (Aborted code) v p = refl

pub sweep_status : (c : Course) (r : Sweep) (v : ℕ) (p : Plain) → sweep_ends c r (with_status v p) ≡ sweep_ends c r p
sweep_status c r v p = ends_status r.finish v _

-- what holds between two accesses
abbrev pub Between : Way → Machine → Waiting → Type 0
Between way m q = Ground way m × Waits way m.phase (plain_of m) q

pub loaded_of : (c : Course) (i n : ℕ) (pace : Pace) (s : State) → Seated c i (suc n) s → located_in s ≡ good_on c i → Loaded (Sectors (suc n) pace) (plain_in s [] [] [])
loaded_of c i n pace s q e = (rw e (ap (λ (d : Course). good_on d i) (sym q.2)), omega arith, q.0, rw (q.2, e) q.1)

abbrev pub notes : List ℕ → Waiting → Notes
notes l w = record { done = l; waiting = w }

-- a word moves on in the notes
pub account-word : (plain old new : List ℕ → Account) (l : List ℕ) (a b : ℕ) →
    ((d : List ℕ) → old (a ∷ b ∷ d) ≡ moving (a ∷ b ∷ []) (new d)) →
    ((d : List ℕ) → plain (l ++ d) ≡ moving l (old d)) →
    (d : List ℕ) → plain ((l ++ (a ∷ b ∷ [])) ++ d) ≡ moving (l ++ (a ∷ b ∷ [])) (new d)
account-word plain old new l a b m f d = simp append_assoc (f (a ∷ b ∷ d) ∙ ap (moving l) (m d))
