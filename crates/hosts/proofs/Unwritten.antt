-- A command that writes no sector: its store, marks and the number of bad sectors are those of its account, at any moment.
use Prim.Native.Nat.{ℕ, ◌+◌, ◌-◌, ◌*◌, ◌%◌}
use mathlib.Core.Bool.{Bool, true, false, ◌||◌, true≢false}
use mathlib.Core.Path.{◌≡◌, refl, sym, ap, ◌∙◌, subst}
use mathlib.Core.List.{List, [], ◌++◌}
use lib.Dec.{ltb, leb, eqb}
use Rattle.ground.specs.Choice.{pick}
use Rattle.ground.proofs.Picks.{pick-elim}
use Rattle.geometry.specs.Address.{index_of}
use Rattle.registers.specs.declared.Load.{Load}
use Rattle.registers.specs.declared.Load.TheVariants.{Sectors, Buffer}
use Rattle.registers.specs.declared.Phase.{Phase}
use Rattle.registers.specs.declared.Phase.TheVariants.{Idle, DataIn, DataOut}
use Rattle.registers.specs.Machine.{Machine}
use Rattle.transfers.specs.declared.Way.{Way}
use Rattle.sectors.specs.Sectors.{StoreMarks}
use Rattle.kept.specs.Lent.{store_marks_in}
use Rattle.account.specs.Numbers.{code_geometry, code_others}
use Rattle.account.specs.Plain.{Plain, with_buffer, with_place, with_current, starts, Finish, Well, NotFound, Unreadable, WriteFault, Aborted, ends, Account, silent}
use Rattle.account.specs.Addressed.{Addressed, At, Bad}
use Rattle.account.specs.CommandRows.{CommandRow, Reads, Writes, Verifies, Erases, Identifies, ReadsBuffer, WritesBuffer, SetsGeometry, Diagnoses, Recalibrates, Seeks, Senses, SetsMultiple, ReadsMultiple, WritesMultiple, Others}
use Rattle.account.specs.Course.{Course, course_of, named}
use Rattle.account.specs.Sweeps.{Sweep, sweep_ends, last_named, read_sweep, read_sectors, whole_run, verify_sectors}
use Rattle.account.specs.WholeSectors.{last_sector}
use Rattle.account.specs.Table.{asked, total, shaped, first, from_first, sets_geometry, seeks, account, behind_block, sets_block, reads, is_block, writes}
use Rattle.account.specs.Host.{plain_of}
use Rattle.account.specs.Notes.{Notes}
use Rattle.hosts.specs.Moment.{store_marks_of, written_so_far, so_far}
use Rattle.account.proofs.Rest.{located, done_in, done_out, rest_at, here, Rel}
use Rattle.hosts.proofs.Written.{Target, Nowhere, From, LoadLies, LiesAt, Lies}
use Rattle.hosts.proofs.WrittenBegins.{target_at, target_of}

ends_left_alone : (e : Finish) (p : Plain) → store_marks_of (ends e p) ≡ store_marks_of p
ends_left_alone Well p = refl
ends_left_alone (NotFound code) p = refl
ends_left_alone Unreadable p = refl
ends_left_alone WriteFault p = refl
ends_left_alone (Aborted code) p = refl

pub sweep_left_alone : (c : Course) (r : Sweep) (p : Plain) → store_marks_of (sweep_ends c r p) ≡ store_marks_of p
sweep_left_alone c r p = ends_left_alone r.finish (with_place (r.left % 256) (named c (last_named r.finish r.stop)) p)

reads_left_alone : (c : Course) (i n : ℕ) (p : Plain) → store_marks_of (read_sectors c i n p).left ≡ store_marks_of p
unfolding read_sectors
reads_left_alone c i n p = let r = read_sweep c p.marks i n in sweep_left_alone c r (with_buffer (last_sector p.store i r.done p.buffer) p)

read_left_alone : (l : Load) (p : Plain) → store_marks_of (done_in l p).left ≡ store_marks_of p
unfolding done_in
read_left_alone Buffer p = refl
read_left_alone (Sectors n pace) p = reads_left_alone (course_of p) (index_of (located p) + 1) (n - 1) p

out_left_alone : (a : Load) (o p : Plain) (h w : ℕ) (b : List ℕ) (s : StoreMarks) (l c d : List ℕ) → LoadLies Nowhere a o h w b s l → store_marks_of (done_out a p c d).left ≡ store_marks_of p
unfolding done_out
out_left_alone Buffer o p h w b s l c d z = refl
out_left_alone (Sectors n pace) o p h w b s l c d z = absurd z

rest_left_alone : (f : Phase) (o p : Plain) (h : ℕ) (b : List ℕ) (s : StoreMarks) (l d : List ℕ) → LiesAt Nowhere f o h b s l → store_marks_of (rest_at f p d).left ≡ store_marks_of p
unfolding rest_at
rest_left_alone Idle o p h b s l d z = refl
rest_left_alone (DataIn t) o p h b s l d z = read_left_alone t.load p
rest_left_alone (DataOut t) o p h b s l d z = out_left_alone t.load o p h t.words b s l _ _ z

-- the account's store, marks and number of bad sectors, of a command that writes none
from_left_alone : (l : Addressed) (p : Plain) (f : ℕ → Account) → ((i : ℕ) → store_marks_of (f i).left ≡ store_marks_of p) → store_marks_of (from_first l silent f p).left ≡ store_marks_of p
from_left_alone (At i) p f h = h i
from_left_alone (Bad code) p f h = refl

verify_left_alone : (l : Addressed) (n : ℕ) (p : Plain) → store_marks_of (from_first l (λ q. q) (λ i. whole_run (course_of p) i n p (verify_sectors (course_of p) i n p)) p) ≡ store_marks_of p
unfolding verify_sectors
verify_left_alone (At i) n p =
    pick-elim (λ (q : Plain). store_marks_of q ≡ store_marks_of p) (leb (i + n) (course_of p).room) _ _ (λ e. sweep_left_alone (course_of p) (read_sweep (course_of p) p.marks i n) p) (λ e. refl)
verify_left_alone (Bad code) n p = refl

set_left_alone : (s h : ℕ) (p : Plain) → store_marks_of (sets_geometry s h p) ≡ store_marks_of p
unfolding sets_geometry
set_left_alone s h p = go (eqb s 0 || ltb (total p) (h * s))
  where
    go : (b : Bool) → store_marks_of (pick b (ends (Aborted code_geometry) p) (ends Well (with_current (shaped h s (total p)) p))) ≡ store_marks_of p
    go true = refl
    go false = refl

bad_left_alone : (l : Addressed) (p : Plain) (f : ℕ → Account) (e : List ℕ) → target_at l ≡ Nowhere → store_marks_of (from_first l silent f (starts p)).left ≡ written_so_far l p e
unfolding written_so_far
bad_left_alone (At i) p f e t = absurd (true≢false (ap somewhere t))
  where
    somewhere : Target → Bool
    somewhere Nowhere = false
    somewhere (From i) = true
bad_left_alone (Bad code) p f e t = refl

reads_alone : (p : Plain) → store_marks_of (reads p).left ≡ store_marks_of p
reads_alone p = from_left_alone (first p) p _ (λ i. reads_left_alone (course_of p) i (asked p.registers.count) p)

block_left_alone : (n : ℕ) (p : Plain) → store_marks_of (sets_block n p) ≡ store_marks_of p
unfolding sets_block
block_left_alone n p = pick-elim (λ (q : Plain). store_marks_of q ≡ store_marks_of p) (is_block n) _ _ (λ e. refl) (λ e. refl)

multiple_left_alone : (v : Bool) (p : Plain) (d e : List ℕ) → pick v Nowhere (target_at (first p)) ≡ Nowhere →
    store_marks_of (pick v (silent (ends (Aborted code_others) (starts p))) (writes (starts p) d)).left ≡ pick v (store_marks_of p) (written_so_far (first p) p e)
multiple_left_alone true p d e t = refl
multiple_left_alone false p d e t = bad_left_alone (first p) p _ e t

row_left_alone : (row : CommandRow) (p : Plain) (d e : List ℕ) → target_of row p ≡ Nowhere → store_marks_of (account row p d).left ≡ so_far row p e
unfolding account behind_block so_far
row_left_alone Reads p d e t = reads_alone (starts p)
row_left_alone Writes p d e t = bad_left_alone (first p) p _ e t
row_left_alone Verifies p d e t = verify_left_alone (first (starts p)) (asked p.registers.count) (starts p)
row_left_alone Erases p d e t = refl
row_left_alone Identifies p d e t = refl
row_left_alone ReadsBuffer p d e t = refl
row_left_alone WritesBuffer p d e t = refl
row_left_alone SetsGeometry p d e t = set_left_alone p.registers.count (p.registers.address.head % 16 + 1) (starts p)
row_left_alone Diagnoses p d e t = refl
row_left_alone Recalibrates p d e t = refl
row_left_alone Seeks p d e t = ends_left_alone (seeks p) (starts p)
row_left_alone Senses p d e t = refl
row_left_alone SetsMultiple p d e t = block_left_alone p.registers.count (starts p)
row_left_alone ReadsMultiple p d e t = pick-elim (λ (a : Account). store_marks_of a.left ≡ store_marks_of p) (eqb p.block 0) _ _ (λ x. refl) (λ x. reads_alone (starts p))
row_left_alone WritesMultiple p d e t =
    multiple_left_alone (eqb p.block 0) p d e t
row_left_alone Others p d e t = refl

pub nowhere : (row : CommandRow) (p : Plain) (way : Way) (m : Machine) (q : Notes) (g : Target) → g ≡ Nowhere → target_of row p ≡ g → Rel way (account row p) m q → Lies g (starts p) m q.done →
    (d : List ℕ) → store_marks_in m ≡ so_far row p d
nowhere row p way m q g e t y z d =
    sym (rest_left_alone m.phase (starts p) (plain_of m) (here m.state) m.buffer (store_marks_in m) q.done [] (subst (λ (x : Target). Lies x (starts p) m q.done) e z))
    ∙ sym (ap (λ (x : Account). store_marks_of x.left) (y.account []))
    ∙ row_left_alone row p (q.done ++ []) d (t ∙ e)
