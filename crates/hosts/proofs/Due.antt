-- How much a command moves is said by its account, whatever the host's data: more than enough is enough.
use Prim.Native.Nat.{ℕ, zero, suc, ◌+◌, ◌*◌, ◌≤◌, ◌<◌}
use mathlib.Core.Bool.{Bool, true, false}
use mathlib.Core.Path.{◌≡◌, refl, sym, ap, ◌∙◌}
use mathlib.Core.List.{List, []}
use native.Mathlib.Omega.{arith}
use lib.Dec.{eqb}
use lib.ListN.{length, take, drop, length-append, length-replicate, length-drop}
use lib.Seq.{length-take-le}
use Rattle.ground.proofs.Picks.{test_elim}
use Rattle.ground.specs.Choice.{pick}
use Rattle.account.specs.Numbers.{code_others}
use Rattle.account.specs.Plain.{Plain, starts, Finish, Well, NotFound, Unreadable, WriteFault, Aborted, silent, ends}
use Rattle.account.specs.Addressed.{Addressed, At, Bad}
use Rattle.account.specs.CommandRows.{CommandRow, Reads, Writes, Verifies, Erases, Identifies, ReadsBuffer, WritesBuffer, SetsGeometry, Diagnoses, Recalibrates, Seeks, Senses, SetsMultiple, ReadsMultiple, WritesMultiple, Others}
use Rattle.account.specs.Course.{course_of}
use Rattle.account.specs.Sweeps.{Sweep, tried, sweep_from, tests, unwritable, write_sweep, moved_by, write_sectors}
use Rattle.account.specs.WholeSectors.{first_sectors}
use Rattle.account.specs.Table.{asked, first, from_first, account, behind_block, writes}
use Rattle.hosts.specs.Live.{plenty, due}

pub plenty-length : length plenty ≡ 512 * 256
unfolding plenty
plenty-length = length-replicate {A = ℕ} (512 * 256) 0

-- no more sectors move than are asked for
one_more_lem : (e : Finish) (k : ℕ) → moved_by e (suc k) ≡ suc (moved_by e k)
one_more_lem Well k = refl
one_more_lem (NotFound code) k = refl
one_more_lem Unreadable k = refl
one_more_lem WriteFault k = refl
one_more_lem (Aborted code) k = refl

tried-most : (e : Finish) (n i : ℕ) (r : Sweep) → moved_by r.finish r.done ≤ n → moved_by (tried e (suc n) i r).finish (tried e (suc n) i r).done ≤ suc n
tried-most Well n i r h = rw (one_more_lem r.finish r.done) (omega arith)
tried-most (NotFound code) n i r h = omega arith
tried-most Unreadable n i r h = omega arith
tried-most WriteFault n i r h = omega arith
tried-most (Aborted code) n i r h = omega arith

sweep-moves : (test : ℕ → Finish) (n i : ℕ) → moved_by (sweep_from test i n).finish (sweep_from test i n).done ≤ n
unfolding sweep_from
sweep-moves test zero i = omega arith
sweep-moves test (suc n) i = tried-most (test i) n i (sweep_from test (i + 1) n) (sweep-moves test n (i + 1))

pub sectors_length : (k : ℕ) (d : List ℕ) → 512 * k ≤ length d → length (first_sectors k d) ≡ 512 * k
unfolding first_sectors
sectors_length zero d h = refl
sectors_length (suc k) d h =
    let e = length-drop 512 d in
    let x = length-take-le 512 d (omega arith) in
    let y = sectors_length k (drop 512 d) (omega arith) in
    length-append (take 512 d) (first_sectors k (drop 512 d)) ∙ (omega arith)

asked-most : (count : ℕ) → count < 256 → asked count ≤ 256
unfolding asked
asked-most count h = go (eqb count 0)
  where
    go : (b : Bool) → pick b 256 count ≤ 256
    go true = omega arith
    go false = omega arith

written_same : (l : Addressed) (n : ℕ) (p : Plain) (d e : List ℕ) → 512 * n ≤ length d → 512 * n ≤ length e →
    length (from_first l silent (λ i. write_sectors (course_of p) i n p d) p).moved ≡ length (from_first l silent (λ i. write_sectors (course_of p) i n p e) p).moved
unfolding write_sectors
written_same (At i) n p d e x y =
    let r = write_sweep (course_of p) p.marks i n in
    let k = moved_by r.finish r.done in
    let z : k ≤ n = sweep-moves (tests unwritable WriteFault (course_of p) p.marks) n i in
    sectors_length k d (omega arith) ∙ sym (sectors_length k e (omega arith))
written_same (Bad code) n p d e x y = refl

writes-due : (p : Plain) (d : List ℕ) → p.registers.count < 256 → 512 * 256 ≤ length d → length (writes (starts p) d).moved ≡ length (writes (starts p) plenty).moved
writes-due p d c h =
    let n = asked-most p.registers.count c in
    let z = plenty-length in
    written_same (first (starts p)) (asked p.registers.count) (starts p) d plenty (omega arith) (omega arith)

pub due_any : (row : CommandRow) (p : Plain) (d : List ℕ) → p.registers.count < 256 → 512 * 256 ≤ length d → length (account row p d).moved ≡ due row p
unfolding account behind_block due
due_any Reads p d c h = refl
due_any Writes p d c h = writes-due p d c h
due_any Verifies p d c h = refl
due_any Erases p d c h = refl
due_any Identifies p d c h = refl
due_any ReadsBuffer p d c h = refl
due_any WritesBuffer p d c h =
    let z = plenty-length in
    let x = length-take-le 512 d (omega arith) in
    let y = length-take-le 512 plenty (omega arith) in
    length-append (take 512 d) [] ∙ ap (λ (k : ℕ). k + 0) (x ∙ sym y) ∙ sym (length-append (take 512 plenty) [])
due_any SetsGeometry p d c h = refl
due_any Diagnoses p d c h = refl
due_any Recalibrates p d c h = refl
due_any Seeks p d c h = refl
due_any Senses p d c h = refl
due_any SetsMultiple p d c h = refl
due_any ReadsMultiple p d c h = refl
due_any WritesMultiple p d c h =
    test_elim (λ (v : Bool). length (pick v (silent (ends (Aborted code_others) (starts p))) (writes (starts p) d)).moved ≡ length (pick v (silent (ends (Aborted code_others) (starts p))) (writes (starts p) plenty)).moved)
    (eqb p.block 0) (λ e. refl) (λ e. writes-due p d c h)
due_any Others p d c h = refl
