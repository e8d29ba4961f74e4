-- What a command has stored is what the data says that has moved.
use native.Mathlib.Nat.{min-eq_left, min-eq_right}
use Prim.Native.Nat.{ℕ, min, suc, ◌+◌, ◌-◌, ◌*◌, ◌≤◌, ◌<◌}
use mathlib.Core.Bool.{true, Bool, false}
use mathlib.Core.Path.{◌≡◌, refl, sym, ap, ◌∙◌, subst}
use mathlib.Core.List.{List, [], ◌++◌, append-nil}
use native.Mathlib.Omega.{arith}
use lib.Dec.{eqb}
use lib.ListN.{length, take, drop, replicate, length-append, length-replicate}
use lib.Seq.{length-take-le}
use Rattle.registers.specs.declared.Load.{Load}
use Rattle.registers.specs.declared.Load.TheVariants.{Sectors, Buffer}
use Rattle.registers.specs.declared.Transfer.{Transfer}
use Rattle.registers.specs.declared.Phase.{Phase}
use Rattle.registers.specs.declared.Phase.TheVariants.{Idle, DataIn, DataOut}
use Rattle.registers.specs.State.{runs}
use Rattle.registers.specs.Machine.{Machine}
use Rattle.transfers.specs.declared.Way.TheVariants.{In, Out}
use Rattle.sectors.specs.Sectors.{store_marks}
use Rattle.kept.specs.Lent.{store_marks_in}
use Rattle.account.specs.Numbers.{code_others}
use Rattle.account.specs.Plain.{Plain, with_buffer, with_store, starts, Finish, Well, NotFound, Unreadable, WriteFault, Aborted, Account, silent, moving, ends}
use Rattle.account.specs.Addressed.{Addressed, At, Bad}
use Rattle.account.specs.CommandRows.{CommandRow, Reads, Writes, Verifies, Erases, Identifies, ReadsBuffer, WritesBuffer, SetsGeometry, Diagnoses, Recalibrates, Seeks, Senses, SetsMultiple, ReadsMultiple, WritesMultiple, Others}
use Rattle.account.specs.Course.{Course, course_of}
use Rattle.account.specs.Sweeps.{Sweep, write_sweep, write_sectors, write_done, moved_by}
use Rattle.account.specs.WholeSectors.{first_sectors, last_sectors, replaced, cleared, bad_left}
use Rattle.account.proofs.Stored.{bad-none}
use Rattle.account.specs.Table.{asked, first, from_first, account, behind_block, writes}
use Rattle.account.specs.Host.{plain_of, asks}
use Rattle.account.specs.Notes.{Waiting, Notes, way_of}
use Rattle.hosts.specs.Moment.{store_marks_of, whole_of, stored_from, written_so_far, so_far}
use Rattle.account.proofs.Rest.{done_out, rest_at, here, Running, Waits, Rel}
use Rattle.hosts.proofs.Due.{sectors_length}
use Rattle.hosts.proofs.Written.{Written, Nowhere, From, LoadLies, LiesAt, Lies}
use Rattle.hosts.proofs.WrittenBegins.{target_at, target_of}
use Rattle.hosts.proofs.Unwritten.{sweep_left_alone, nowhere}
use Rattle.ground.specs.Choice.{pick}

-- of the sectors that move all are stored but for one that can't be written
moved_done : (e : Finish) (k : ℕ) → (k ≤ moved_by e k) × (moved_by e k ≤ suc k)
moved_done Well k = (omega arith, omega arith)
moved_done (NotFound code) k = (omega arith, omega arith)
moved_done Unreadable k = (omega arith, omega arith)
moved_done WriteFault k = (omega arith, omega arith)
moved_done (Aborted code) k = (omega arith, omega arith)

module _ (c : Course) (i : ℕ) (r : Sweep) (p : Plain) (m : Machine) (l : List ℕ) where
  abbrev K : ℕ
  K = moved_by r.finish r.done

  abbrev enough : ℕ → List ℕ
  enough n = replicate (512 * n) 0

  moves : (n : ℕ) → K ≤ n → length (first_sectors K (l ++ enough n)) ≡ 512 * K
  moves n h =
      let e : length (l ++ enough n) ≡ length l + 512 * n = length-append l (enough n) ∙ ap (λ (k : ℕ). length l + k) (length-replicate {A = ℕ} (512 * n) 0) in
      sectors_length K (l ++ enough n) (omega arith)

  -- its end, and whatever the host writes to no effect from then on
  ended : ((d : List ℕ) → write_done c i r p (l ++ d) ≡ moving l (rest_at Idle (plain_of m) d)) → (d : List ℕ) → store_marks_in m ≡ stored_from i (min (whole_of (l ++ d)) r.done) p (l ++ d)
  unfolding rest_at
  ended a d =
      let x : 512 * K ≡ length l = sym (moves K (omega arith)) ∙ ap (λ (y : Account). length y.moved) (a (enough K)) ∙ ap length (append-nil l) in
      let y = moved_done r.finish r.done in
      let z = length-append l d in
      let k : min (whole_of (l ++ d)) r.done ≡ r.done = min-eq_right (omega arith) in
      sym (ap (λ (u : Account). store_marks_of u.left) (a d))
      ∙ sweep_left_alone c r (with_buffer (last_sectors K (l ++ d) p.buffer) (with_store (replaced i r.done (l ++ d) p.store) (cleared i r.done p.marks) (bad_left i r.done p) p))
      ∙ ap (λ (n : ℕ). stored_from i n p (l ++ d)) (sym k)

  -- in mid-transfer
  sector_at_hand : (t : Transfer) → t.words < 256 → ((d : List ℕ) → write_done c i r p (l ++ d) ≡ moving l (rest_at (DataOut t) (plain_of m) d)) → length l + (512 - 2 * t.words) ≤ 512 * K
  unfolding rest_at
  sector_at_hand t h a =
      let d = enough (suc K) in
      let n = 512 - 2 * t.words in
      let b = (done_out t.load (plain_of m) (take (2 * t.words) m.buffer ++ take n d) (drop n d)).moved in
      let x = moves (suc K) (omega arith) in
      let y = ap (λ (u : Account). length u.moved) (a d) in
      let z : length (l ++ (take n d ++ b)) ≡ length l + (length (take n d) + length b) = length-append l (take n d ++ b) ∙ ap (λ (k : ℕ). length l + k) (length-append (take n d) b) in
      let e = length-replicate {A = ℕ} (512 * suc K) 0 in
      let w : length (take n d) ≡ n = length-take-le n d (omega arith) in
      omega arith

  a_sector : (a : Load) (w : ℕ) → LoadLies (From i) a p (here m.state) w m.buffer (store_marks_in m) l → Written i p (here m.state) w m.buffer (store_marks_in m) l
  a_sector Buffer w z = absurd z
  a_sector (Sectors n pace) w z = z

  stored-whole : (h w : ℕ) (z : Written i p h w m.buffer (store_marks_in m) l) → stored_from i z.k p l ≡ store_marks_in m
  unfolding replaced cleared
  stored-whole h w z =
      let n : z.k ≡ z.k + 0 = omega arith in
      let u : replaced i z.k l p.store ≡ m.store =
      ap (λ (k : ℕ). replaced i k l p.store) n ∙ ap (λ (x : List ℕ). replaced i (z.k + 0) x p.store) (sym (append-nil l)) ∙ z.stored 0 [] in
      let v : cleared i z.k p.marks ≡ m.marks = ap (λ (k : ℕ). cleared i k p.marks) n ∙ z.marked 0 in
      let b : bad_left i z.k p ≡ m.state.bad = ap (λ (k : ℕ). bad_left i k p) n ∙ z.counted 0 ∙ bad-none m.state.bad h m.marks in
      ap (λ (x : List ℕ). store_marks x (cleared i z.k p.marks) (bad_left i z.k p)) u
      ∙ ap (λ (x : List ℕ). store_marks m.store x (bad_left i z.k p)) v
      ∙ ap (store_marks m.store m.marks) b

  running : (t : Transfer) (w : Waiting) → Running Out t (plain_of m) w → ((d : List ℕ) → write_done c i r p (l ++ d) ≡ moving l (rest_at (DataOut t) (plain_of m) d)) →
      LoadLies (From i) t.load p (here m.state) t.words m.buffer (store_marks_in m) l → store_marks_in m ≡ stored_from i (min (whole_of l) r.done) p l
  running t w h a q =
      let z = a_sector t.load t.words q in
      let s = z.size in
      let f = h.0 in
      let x = sector_at_hand t f a in
      let y = moved_done r.finish r.done in
      let e : whole_of l ≡ z.k = omega arith in
      let k : min (whole_of l) r.done ≡ z.k = min-eq_left (omega arith) ∙ e in
      sym (stored-whole (here m.state) t.words z) ∙ ap (λ (n : ℕ). stored_from i n p l) (sym k)

  write_moment : (f : Phase) (w : Waiting) → Waits Out f (plain_of m) w → ((d : List ℕ) → write_done c i r p (l ++ d) ≡ moving l (rest_at f (plain_of m) d)) →
      LiesAt (From i) f p (here m.state) m.buffer (store_marks_in m) l → (d : List ℕ) → (runs f ≡ true → d ≡ []) →
      store_marks_in m ≡ stored_from i (min (whole_of (l ++ d)) r.done) p (l ++ d)
  write_moment Idle w h a z d n = ended a d
  write_moment (DataIn t) w h a z d n = absurd h
  write_moment (DataOut t) w h a z d n =
      running t w h a z ∙ ap (λ (x : List ℕ). stored_from i (min (whole_of x) r.done) p x) (sym (append-nil l) ∙ ap (λ (x : List ℕ). l ++ x) (sym (n refl)))

-- p as the command found it; d is what the host writes when the card asks no more
writes_moment : (g : Addressed) (p : Plain) (m : Machine) (q : Notes) → first p ≡ g → Rel Out (account Writes p) m q → Lies (target_at g) (starts p) m q.done →
    (d : List ℕ) → (asks m ≡ true → d ≡ []) → store_marks_in m ≡ so_far Writes p (q.done ++ d)
unfolding account so_far written_so_far write_sectors
writes_moment (At i) p m q e y z d n =
    rw e (write_moment (course_of p) i (write_sweep (course_of p) p.marks i (asked p.registers.count)) (starts p) m q.done m.phase q.waiting y.waits
    (λ d. subst (λ (g : Addressed). from_first g silent (λ i. write_sectors (course_of (starts p)) i (asked p.registers.count) (starts p) (q.done ++ d)) (starts p)
    ≡ moving q.done (rest_at m.phase (plain_of m) d)) e (y.account d)) z d n)
writes_moment (Bad code) p m q e y z d n = nowhere Writes p Out m q Nowhere refl (ap target_at e) y z (q.done ++ d)

-- C5H: nothing without a block, and as 30H with one
multiple_moment : (v : Bool) (p : Plain) (m : Machine) (q : Notes) → Rel Out (λ d. pick v (silent (ends (Aborted code_others) (starts p))) (writes (starts p) d)) m q →
    Lies (pick v Nowhere (target_at (first p))) (starts p) m q.done → (d : List ℕ) → (asks m ≡ true → d ≡ []) →
    store_marks_in m ≡ pick v (store_marks_of p) (written_so_far (first p) p (q.done ++ d))
unfolding account so_far
multiple_moment true p m q y z d n = nowhere Others p Out m q Nowhere refl refl y z (q.done ++ d)
multiple_moment false p m q y z d n = writes_moment (first p) p m q refl y z d n

pub moment : (row : CommandRow) (p : Plain) (m : Machine) (q : Notes) → Rel (way_of row) (account row p) m q → Lies (target_of row p) (starts p) m q.done →
    (d : List ℕ) → (asks m ≡ true → d ≡ []) → store_marks_in m ≡ so_far row p (q.done ++ d)
unfolding account behind_block so_far
moment Reads p m q y z d n = nowhere Reads p In m q Nowhere refl refl y z (q.done ++ d)
moment Writes p m q y z d n = writes_moment (first p) p m q refl y z d n
moment Verifies p m q y z d n = nowhere Verifies p In m q Nowhere refl refl y z (q.done ++ d)
moment Erases p m q y z d n = nowhere Erases p Out m q Nowhere refl refl y z (q.done ++ d)
moment Identifies p m q y z d n = nowhere Identifies p In m q Nowhere refl refl y z (q.done ++ d)
moment ReadsBuffer p m q y z d n = nowhere ReadsBuffer p In m q Nowhere refl refl y z (q.done ++ d)
moment WritesBuffer p m q y z d n = nowhere WritesBuffer p Out m q Nowhere refl refl y z (q.done ++ d)
moment SetsGeometry p m q y z d n = nowhere SetsGeometry p In m q Nowhere refl refl y z (q.done ++ d)
moment Diagnoses p m q y z d n = nowhere Diagnoses p In m q Nowhere refl refl y z (q.done ++ d)
moment Recalibrates p m q y z d n = nowhere Recalibrates p In m q Nowhere refl refl y z (q.done ++ d)
moment Seeks p m q y z d n = nowhere Seeks p In m q Nowhere refl refl y z (q.done ++ d)
moment Senses p m q y z d n = nowhere Senses p In m q Nowhere refl refl y z (q.done ++ d)
moment SetsMultiple p m q y z d n = nowhere SetsMultiple p In m q Nowhere refl refl y z (q.done ++ d)
moment ReadsMultiple p m q y z d n = nowhere ReadsMultiple p In m q Nowhere refl refl y z (q.done ++ d)
moment WritesMultiple p m q y z d n = multiple_moment (eqb p.block 0) p m q y z d n
moment Others p m q y z d n = nowhere Others p In m q Nowhere refl refl y z (q.done ++ d)
