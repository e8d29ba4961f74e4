-- A sector command begins: the first address is decided, and the account of the rest is the account of the command.
use Rattle.std.proofs.Common.{Ok, Err}
use Prim.Native.Nat.{ℕ, zero, suc, ◌+◌, ◌-◌, ◌%◌, ◌<◌}
use mathlib.Core.Bool.{Bool, true, false}
use mathlib.Core.Path.{◌≡◌, refl}
use mathlib.Core.List.{List}
use native.Mathlib.Omega.{arith}
use lib.ListN.{length}
use lib.Dec.{ltb}
use borrow.Author.Tests.{ltb-true, ltb-false, lt-leb, le-leb, ne_eqb}
use Rattle.ground.specs.Choice.{pick}
use Rattle.ground.specs.Left.{leaving}
use Rattle.geometry.specs.declared.Spot.{Spot}
use Rattle.geometry.proofs.Kept.{Bytes}
use Rattle.registers.specs.declared.Pace.{Pace}
use Rattle.registers.specs.declared.State.{State}
use Rattle.registers.specs.declared.Core.{Core}
use Rattle.registers.specs.State.{located_in}
use Rattle.registers.specs.Machine.{Machine, with_core}
use Rattle.transfers.specs.declared.End.{End}
use Rattle.transfers.specs.Ends.{ended}
use Rattle.transfers.specs.declared.Order.TheVariants.{First}
use Rattle.transfers.specs.Before.{address_test, sector_test, sector_stored, past_end}
use Rattle.transfers.specs.Steps.{read_sector, ask_sector}
use Rattle.commands.specs.Sweeps.{verify_from, verify_run, erase_from, erase_run}
use Rattle.transfers.specs.declared.Way.TheVariants.{In, Out}
use Rattle.account.specs.Numbers.{code_cylinder_or_lba}
use Rattle.account.specs.Plain.{Plain, NotFound, ends, silent}
use Rattle.account.specs.Course.{Course, course_of}
use Rattle.account.specs.Sweeps.{read_sectors, write_sectors, whole_run, verify_sectors, erase_sectors}
use Rattle.account.specs.Table.{asked, from_first}
use Rattle.kept.specs.Lent.{store_marks_in}
use Rattle.account.specs.Host.{plain_of, plain_in}
use Rattle.account.specs.Notes.{None}
use Rattle.account.proofs.Addressed.{as_addressed}
use Rattle.account.proofs.Seats.{course_in, Seated, seat_room, seat_address, where_first}
use Rattle.account.proofs.Verifying.{verify_is}
use Rattle.account.proofs.Erasing.{erase_is, erased_plain}
use Rattle.account.proofs.Rest.{rest_at, rest, Ground, Between}
use Rattle.account.proofs.Reading.{read_rest}
use Rattle.account.proofs.ReadBetween.{read_between}
use Rattle.account.proofs.Writing.{ask_rest}
use Rattle.account.proofs.WriteBetween.{ask_between}
use Rattle.geometry.specs.Address.{Located}
use Rattle.geometry.specs.declared.BadAddress.{BadAddress}

-- "Count 0 means 256": 1..256 sectors, agreeing with Count modulo 256
pub asked-elim : (P : ℕ → Type 0) (count : ℕ) → count < 256 → ((n : ℕ) → count ≡ suc n % 256 → P (suc n)) → P (asked count)
unfolding asked
asked-elim P zero h f = f 255 refl
asked-elim P (suc k) h f = rw (ne_eqb (suc k) 0 (omega arith)) (f k (omega arith))

-- registers of 8 bits
abbrev pub Eight : State → Type 0
Eight s = (s.registers.count < 256) × Bytes s.registers.address

seated : (n : ℕ) (p : Spot) (s : State) → Bytes s.registers.address → s.registers.count ≡ suc n % 256 → located_in s ≡ Ok p → Seated (course_in s) p.index (suc n) s
seated n p s b c e = (c, seat_address s p b e, refl)

-- a run from a good start is past the end in the machine, more than remain, just where it is in the account
run_by : (v : Bool) {A : Type 0} (plain : A → Plain) (past rest : A) (spot : Spot) (c : Course) (n : ℕ) (p done : Plain) → ltb spot.remain n ≡ v →
    (spot.index < c.room) × (spot.remain ≡ c.room - spot.index) → plain past ≡ ends (NotFound code_cylinder_or_lba) p → plain rest ≡ done →
    plain (pick v past rest) ≡ whole_run c spot.index n p done
run_by true plain past rest spot c n p done v r e f =
    let x = r.0 in
    let y = r.1 in
    let z = ltb-true spot.remain n v in
    rw (lt-leb (spot.index + n) c.room (omega arith)) e
run_by false plain past rest spot c n p done v r e f =
    let x = r.0 in
    let y = r.1 in
    let z = ltb-false spot.remain n v in
    rw (le-leb (spot.index + n) c.room (omega arith)) f

module _ (n : ℕ) (pace : Pace) (m : Machine) (b : Bytes m.state.registers.address) (c : m.state.registers.count ≡ suc n % 256) where
  pub read_begins : (l : Located) (d : List ℕ) → Ground In m → located_in m.state ≡ l →
      rest (read_sector (suc n) pace m) d ≡ from_first (as_addressed l) silent (λ i. read_sectors (course_of (plain_of m)) i (suc n) (plain_of m)) (plain_of m)
  unfolding read_sector sector_test address_test rest_at
  read_begins (Ok spot) d g e =
      read_rest n pace (course_in m.state) spot.index m d g.0 g.1 (seated n spot m.state b c e) (where_first m.state spot g.0 e)
  read_begins (Err BadAddress.HeadOrSector) d g e = rw e
  read_begins (Err BadAddress.Cylinder) d g e = rw e
  read_begins (Err BadAddress.Lba) d g e = rw e

  pub read_begins_between : (l : Located) → Ground In m → located_in m.state ≡ l → Between In (read_sector (suc n) pace m) None
  unfolding read_sector sector_test address_test
  read_begins_between (Ok spot) g e = read_between n pace (course_in m.state) spot.index m g (seated n spot m.state b c e) (where_first m.state spot g.0 e)
  read_begins_between (Err BadAddress.HeadOrSector) g e = rw e (g, refl)
  read_begins_between (Err BadAddress.Cylinder) g e = rw e (g, refl)
  read_begins_between (Err BadAddress.Lba) g e = rw e (g, refl)

  pub write_begins : (l : Located) (d : List ℕ) → Ground Out m → located_in m.state ≡ l →
      rest (with_core (ask_sector (suc n) pace First m.state) m) d ≡ from_first (as_addressed l) silent (λ i. write_sectors (course_of (plain_of m)) i (suc n) (plain_of m) d) (plain_of m)
  unfolding ask_sector address_test rest_at
  write_begins (Ok spot) d g e =
      ask_rest n pace First (course_in m.state) spot.index m.state m.buffer m.store m.marks d (seated n spot m.state b c e) (where_first m.state spot g.0 e)
  write_begins (Err BadAddress.HeadOrSector) d g e = rw e
  write_begins (Err BadAddress.Cylinder) d g e = rw e
  write_begins (Err BadAddress.Lba) d g e = rw e

  pub write_begins_between : (l : Located) → length m.buffer ≡ 512 → Ground Out m → located_in m.state ≡ l → Between Out (with_core (ask_sector (suc n) pace First m.state) m) None
  unfolding ask_sector address_test
  write_begins_between (Ok spot) f g e =
      ask_between n pace First (course_in m.state) spot.index m.state m.buffer m.store m.marks f g (seated n spot m.state b c e) (where_first m.state spot g.0 e)
  write_begins_between (Err BadAddress.HeadOrSector) f g e = rw e (g, refl)
  write_begins_between (Err BadAddress.Cylinder) f g e = rw e (g, refl)
  write_begins_between (Err BadAddress.Lba) f g e = rw e (g, refl)

  pub verify_begins : (l : Located) → Ground In m → located_in m.state ≡ l →
      plain_in (verify_run (suc n) m.state m.marks).state m.buffer m.store m.marks
      ≡ from_first (as_addressed l) (λ q. q) (λ i. whole_run (course_of (plain_of m)) i (suc n) (plain_of m) (verify_sectors (course_of (plain_of m)) i (suc n) (plain_of m))) (plain_of m)
  verify_begins (Ok spot) g e =
      unfold verify_run past_end in
      rw e
      (run_by (ltb spot.remain (suc n)) (λ (k : Core). plain_in k.state m.buffer m.store m.marks) (ended End.PastEnd m.state) (verify_from (suc n) m.state m.marks) spot
      (course_in m.state) (suc n) (plain_of m) _ refl (seat_room m.state spot g.0 e) refl
      (verify_is n (course_in m.state) spot.index m.state m.buffer m.store m.marks g.0 (seated n spot m.state b c e) (where_first m.state spot g.0 e)))
  verify_begins (Err BadAddress.HeadOrSector) g e = unfold verify_run past_end verify_from sector_test address_test in rw e
  verify_begins (Err BadAddress.Cylinder) g e = unfold verify_run past_end verify_from sector_test address_test in rw e
  verify_begins (Err BadAddress.Lba) g e = unfold verify_run past_end verify_from sector_test address_test in rw e

  pub erase_begins : (l : Located) → Ground In m → located_in m.state ≡ l →
      erased_plain (erase_run (suc n) m.state m.store m.marks) m.buffer
      ≡ from_first (as_addressed l) (λ q. q) (λ i. whole_run (course_of (plain_of m)) i (suc n) (plain_of m) (erase_sectors (course_of (plain_of m)) i (suc n) (plain_of m))) (plain_of m)
  erase_begins (Ok spot) g e =
      unfold erase_run past_end in
      rw e
      (run_by (ltb spot.remain (suc n)) (λ k. erased_plain k m.buffer) (leaving (ended End.PastEnd m.state) (store_marks_in m)) (erase_from (suc n) m.state m.store m.marks) spot
      (course_in m.state) (suc n) (plain_of m) _ refl (seat_room m.state spot g.0 e) refl
      (erase_is n (course_in m.state) spot.index m.state m.buffer m.store m.marks g.0 g.1
      (seated n spot m.state b c e) (where_first m.state spot g.0 e)))
  erase_begins (Err BadAddress.HeadOrSector) g e = unfold erase_run past_end erase_from sector_stored sector_test address_test in rw e
  erase_begins (Err BadAddress.Cylinder) g e = unfold erase_run past_end erase_from sector_stored sector_test address_test in rw e
  erase_begins (Err BadAddress.Lba) g e = unfold erase_run past_end erase_from sector_stored sector_test address_test in rw e
