-- A write or an erase changes only sectors that it names: those from the first index on, as many as Count asks for.
use Prim.Native.Nat.{ℕ, ◌+◌, ◌*◌, ◌≤◌, ◌<◌}
use mathlib.Core.Path.{◌≡◌, refl, sym, ap, ◌∙◌, subst}
use mathlib.Core.List.{List, ◌++◌}
use native.Mathlib.Omega.{arith}
use lib.Dec.{leb}
use lib.ListN.{length, replicate, length-append, length-replicate}
use Rattle.ground.proofs.Picks.{pick-elim}
use Rattle.geometry.specs.Limits.{total_of}
use Rattle.registers.specs.Machine.{Machine}
use Rattle.transfers.specs.declared.Way.TheVariants.{In}
use Rattle.card.specs.Access.{Asked}
use Rattle.card.specs.Step.{step}
use Rattle.account.specs.Plain.{Plain, starts, WriteFault, Account, silent}
use Rattle.account.specs.Addressed.{Addressed, At, Bad}
use Rattle.account.specs.CommandRows.{CommandRow, Writes, Erases, row_of}
use Rattle.account.specs.Course.{course_of}
use Rattle.account.specs.Sweeps.{Sweep, tests, unwritable, write_sweep, write_sectors, whole_run, erase_sectors}
use Rattle.account.specs.Table.{asked, first, from_first, account}
use Rattle.account.specs.Host.{plain_of, Hosted, Moves}
use Rattle.account.specs.Claim.{Agrees}
use Rattle.account.specs.Follows.{Able, AcceptedCommand, after, SameOutside, OnlyNamed}
use Rattle.account.proofs.Seats.{course_in, spot_on, seat_room, room_total}
use Rattle.account.proofs.Rest.{Ground}
use Rattle.account.proofs.Commands.{first_at}
use Rattle.account.proofs.Accepted.{given, able}
use Rattle.account.proofs.Theorem.{agreed}
use Rattle.account.proofs.Corollaries.{ends-store}
use Rattle.account.proofs.Elsewhere.{replaced_same, blanked_same, cleared_same, sweep_inside, sweep-most}

-- fewer sectors than those named
wider : (s t u : List ℕ) (low high more : ℕ) → high ≤ more → u ≡ t → SameOutside low high s t → SameOutside low more s u
wider s t u low high more h e z = rw e (z.0, λ k y. z.1 k (omega arith), z.2)

all_same : (low high : ℕ) (s : List ℕ) → SameOutside low high s s
all_same low high s = (λ k h. refl, λ k h. refl, refl)

module _ (n total : ℕ) (o : Plain) (s : length o.store ≡ 512 * total) (r : (course_of o).room ≤ total) where
  -- as the command starts
  abbrev p : Plain
  p = starts o

  abbrev sweep_of : ℕ → Sweep
  sweep_of i = write_sweep (course_of p) p.marks i n

  write_named : (l : Addressed) (d : List ℕ) → ((i : ℕ) → l ≡ At i → (i ≤ (course_of p).room) × (512 * (sweep_of i).done ≤ length d)) →
      OnlyNamed l n o (from_first l silent (λ i. write_sectors (course_of p) i n p d) p).left
  unfolding write_sectors
  write_named (At i) d h =
      let k = sweep_of i in
      let f = h i refl in
      let x = sweep_inside unwritable WriteFault (course_of p) p.marks n i f.0 in
      let y = sweep-most (tests unwritable WriteFault (course_of p) p.marks) n i in
      let e = ends-store k.finish _ in (
        wider p.store _ _ (512 * i) (512 * (i + k.done)) (512 * (i + n)) (omega arith) e.0
            (replaced_same k.done i total d p.store f.1 (omega arith) s),
        wider p.marks _ _ i (i + k.done) (i + n) (omega arith) e.1 (cleared_same k.done i p.marks),
      )
  write_named (Bad code) d h = (refl, refl)

  erased_inside : (i : ℕ) → i ≤ (course_of p).room → OnlyNamed (At i) n o (erase_sectors (course_of p) i n p)
  unfolding erase_sectors
  erased_inside i h =
      let k = sweep_of i in
      let x = sweep_inside unwritable WriteFault (course_of p) p.marks n i h in
      let y = sweep-most (tests unwritable WriteFault (course_of p) p.marks) n i in
      let e = ends-store k.finish _ in (
        wider p.store _ _ (512 * i) (512 * (i + k.done)) (512 * (i + n)) (omega arith) e.0
            (blanked_same k.done i total p.store (omega arith) s),
        wider p.marks _ _ i (i + k.done) (i + n) (omega arith) e.1 (cleared_same k.done i p.marks),
      )

  erase_named : (l : Addressed) → ((i : ℕ) → l ≡ At i → i ≤ (course_of p).room) →
      OnlyNamed l n o (from_first l (λ q. q) (λ i. whole_run (course_of p) i n p (erase_sectors (course_of p) i n p)) p)
  erase_named (At i) h =
      pick-elim (OnlyNamed (At i) n o) (leb (i + n) (course_of p).room) _ _ (λ e. erased_inside i (h i refl)) (λ e. (all_same (512 * i) (512 * (i + n)) p.store, all_same i (i + n) p.marks))
  erase_named (Bad code) h = (refl, refl)

-- the first index is one of the room, and the room is inside the store
first_inside : (m : Machine) (i : ℕ) → Ground In m → first (plain_of m) ≡ At i → i < (course_in m.state).room
first_inside m i g e = (seat_room m.state (spot_on (course_in m.state) i) g.0 (first_at m i g.0 e)).0

writes-named : (m : Machine) (done : List ℕ) → Ground In m →
    let n = asked m.state.registers.count in
    OnlyNamed (first (plain_of m)) n (plain_of m) (account Writes (plain_of m) (done ++ replicate (512 * n) 0)).left
unfolding account
writes-named m done g =
    let n = asked m.state.registers.count in
    let d = done ++ replicate (512 * n) 0 in
    let l : length d ≡ length done + 512 * n = length-append done (replicate (512 * n) 0) ∙ ap (λ (k : ℕ). length done + k) (length-replicate (512 * n) 0) in
    write_named n (total_of m.state.made.default) (plain_of m) g.1.0 (room_total (course_in m.state) m.state g.0 refl) (first (plain_of m)) d
    (λ i e.
    let y = sweep-most (tests unwritable WriteFault (course_of (plain_of m)) m.marks) n i in
    let z = first_inside m i g e in
    (omega arith, omega arith))

erases-named : (m : Machine) (d : List ℕ) → Ground In m → OnlyNamed (first (plain_of m)) (asked m.state.registers.count) (plain_of m) (account Erases (plain_of m) d).left
unfolding account
erases-named m d g =
    erase_named (asked m.state.registers.count) (total_of m.state.made.default) (plain_of m) g.1.0 (room_total (course_in m.state) m.state g.0 refl) (first (plain_of m))
    (λ i e. let z = first_inside m i g e in omega arith)

-- of what is claimed alone, whoever the host
pub writes_agree : (m : Machine) (v : ℕ) (h : Hosted) → Able m → row_of v ≡ Writes → Agrees (account (row_of v) (plain_of m)) h →
    OnlyNamed (first (plain_of m)) (asked m.state.registers.count) (plain_of m) (plain_of h.machine)
writes_agree m v h k e x =
    let n = asked m.state.registers.count in
    let u = ap (λ (r : CommandRow). account r (plain_of m) (h.notes.done ++ replicate (512 * n) 0)) e in
    subst (λ (q : Account). OnlyNamed (first (plain_of m)) n (plain_of m) q.left) (sym u ∙ x.enough (replicate (512 * n) 0)) (writes-named m h.notes.done (given m k).0)

pub erases_agree : (m : Machine) (v : ℕ) (h : Hosted) → Able m → row_of v ≡ Erases → Agrees (account (row_of v) (plain_of m)) h →
    OnlyNamed (first (plain_of m)) (asked m.state.registers.count) (plain_of m) (plain_of h.machine)
erases_agree m v h k e x =
    let u = ap (λ (r : CommandRow). account r (plain_of m) h.notes.done) e in
    subst (λ (q : Account). OnlyNamed (first (plain_of m)) (asked m.state.registers.count) (plain_of m) q.left) (sym u ∙ x.account) (erases-named m h.notes.done (given m k).0)

pub write_changes_only_named : (m : Machine) (a : Asked) (v : ℕ) (l : List Asked) → AcceptedCommand m a v → row_of v ≡ Writes → Moves (step m a).next l →
    OnlyNamed (first (plain_of m)) (asked m.state.registers.count) (plain_of m) (plain_of (after m a v l).machine)
write_changes_only_named m a v l w e x = writes_agree m v (after m a v l) (able m a v w) e (agreed m a v l w x)

pub erase_changes_only_named : (m : Machine) (a : Asked) (v : ℕ) (l : List Asked) → AcceptedCommand m a v → row_of v ≡ Erases → Moves (step m a).next l →
    OnlyNamed (first (plain_of m)) (asked m.state.registers.count) (plain_of m) (plain_of (after m a v l).machine)
erase_changes_only_named m a v l w e x = erases_agree m v (after m a v l) (able m a v w) e (agreed m a v l w x)
