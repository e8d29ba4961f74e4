-- A sector is read or asked for, and what the last byte of a sector does.
use Rattle.std.proofs.Common.{Ok, Err}
use Prim.Native.Nat.{ℕ, ◌-◌, ◌≤◌}
use mathlib.Core.Bool.{true}
use mathlib.Core.Path.{◌≡◌, refl}
use mathlib.Core.List.{List}
use native.Mathlib.Omega.{arith}
use native.Mathlib.Nat.{le_refl}
use lib.Dec.{eqb}
use lib.ListN.{length}
use borrow.Author.Tests.{leb-true, le-leb}
use Rattle.ground.proofs.Picks.{pick-elim}
use Rattle.ground.proofs.Every.{each}
use Rattle.sectors.specs.Sectors.{StoreMarks, store_marks}
use Rattle.registers.specs.declared.Pace.{Pace}
use Rattle.registers.specs.declared.Load.{Load}
use Rattle.registers.specs.declared.Load.TheVariants.{Sectors, Buffer}
use Rattle.registers.specs.declared.Made.{Made}
use Rattle.registers.specs.declared.State.{State}
use Rattle.registers.specs.declared.Core.{Core}
use Rattle.registers.specs.State.{with_bad, total_in, located_in}
use Rattle.registers.specs.Machine.{Machine}
use Rattle.registers.specs.WellMade.{in_reset, sectors_fit, load_fits, bad_fits, pace_fits, load_pace_fits}
use Rattle.transfers.specs.declared.End.{End}
use Rattle.transfers.specs.declared.Way.TheVariants.{In, Out}
use Rattle.transfers.specs.declared.Order.{Order}
use Rattle.transfers.specs.declared.Order.TheVariants.{Later}
use Rattle.transfers.specs.Before.{allows, mark_end, address_test, sector_test, stored_by, sector_stored, Tested}
use Rattle.transfers.specs.Steps.{idle_with, sector_done, read_tested, read_sector, next_read, load_read, ask_tested, ask_sector, next_asked, core_written, load_written}
use Rattle.kept.proofs.Registers.{CoreFits}
use Rattle.registers.specs.Blocks.{pace_after}
use Rattle.kept.proofs.Paces.{pace_after_lem}
use Rattle.kept.proofs.Lent.{lent_same, buffer_read_lem, stored_lengths, stored_less}
use Rattle.kept.proofs.Ends.{Fine, Ready, CountAgrees, LoadFits, Next, ended-left, reading-left, ready-left, asked-left, sectors_fit_lem, address_elim, mark_elim, done_block, done_ready, done_agrees}

-- ---- reading

-- a sector that is done leaves the block
done_pace : (left : ℕ) (k : Pace) (s : State) → pace_fits k s.block ≡ true → pace_fits k (sector_done left s).block ≡ true
done_pace left k s p = rw (done_block left s) p

pub read_next : (left : ℕ) (k : Pace) (d : Made) (m : Machine) → Ready d m.state → CountAgrees left m.state → pace_fits k m.state.block ≡ true → Next d m (read_sector left k m)
unfolding read_sector sector_test address_test
read_next left k d m r a p =
    mark_elim (λ (t : Tested). Next d m (read_tested t left k m)) (allows In) (mark_end In) m.marks (located_in m.state) refl
    (λ spot g. (ready-left (Sectors left k) d m.state r (sectors_fit_lem left k m.state g a p), λ b. (refl, refl, buffer_read_lem m.store spot.index m.buffer b)))
    (λ e b. (ended-left e d m.state r.0, lent_same m))

on_read : (left : ℕ) (k : Pace) (d : Made) (m : Machine) → left ≤ 255 → Ready d m.state → pace_fits k m.state.block ≡ true → Next d m (next_read left k m)
unfolding next_read
on_read left k d m l r p =
    let q = done_ready left d m.state r in
    pick-elim (λ (n : Machine). Next d m n) (eqb left 0) _ _
    (λ e. (reading-left d (sector_done left m.state) q.0, lent_same m))
    (λ e. read_next left k d (idle_with (sector_done left m.state) m) q (done_agrees left m.state e l) (done_pace left k m.state p))

-- 1..256 sectors were left, and the next one has its place
few : (left : ℕ) (k : Pace) (s : State) → load_fits (Sectors left k) s ≡ true → left - 1 ≤ 255
unfolding load_fits sectors_fit
few left k s e = let h = leb-true left 256 (each _ e 2) in omega arith

on_pace : (left : ℕ) (k : Pace) (b : ℕ) → load_pace_fits (Sectors left k) b ≡ true → pace_fits (pace_after k) b ≡ true
unfolding load_pace_fits
on_pace left k b e = pace_after_lem k b e

pub load_read_lem : (load : Load) (d : Made) (m : Machine) → Ready d m.state → LoadFits load m.state → Next d m (load_read load m)
load_read_lem Buffer d m r e = (reading-left d m.state r.0, lent_same m)
load_read_lem (Sectors left k) d m r e = on_read (left - 1) (pace_after k) d m (few left k m.state e.0) r (on_pace left k m.state.block e.1)

-- ---- writing

pub ask_left : (left : ℕ) (k : Pace) (order : Order) (d : Made) (s : State) → Ready d s → CountAgrees left s → pace_fits k s.block ≡ true → CoreFits d (ask_sector left k order s)
unfolding ask_sector address_test
ask_left left k order d s r a p =
    address_elim (λ (t : Tested). CoreFits d (ask_tested t left k order s)) (located_in s)
    (λ spot g. asked-left (Sectors left k) order d s r (sectors_fit_lem left k s g a p))
    (λ e b. ended-left e d s r.0)

on_asked : (left : ℕ) (k : Pace) (d : Made) (s : State) → left ≤ 255 → Ready d s → pace_fits k s.block ≡ true → CoreFits d (next_asked left k s)
unfolding next_asked
on_asked left k d s l r p =
    let q = done_ready left d s r in
    pick-elim (λ (k : Core). CoreFits d k) (eqb left 0) _ _
    (λ e. ended-left End.Good d (sector_done left s) q.0)
    (λ e. ask_left left k Later d (sector_done left s) q (done_agrees left s e l) (done_pace left k s p))

written-left : (t : Tested) (left : ℕ) (k : Pace) (d : Made) (s : State) → left ≤ 255 → Ready d s → pace_fits k s.block ≡ true → CoreFits d (core_written t left k s)
written-left (Ok spot) left k d s l r p = on_asked left k d s l r p
written-left (Err e) left k d s l r p = ended-left e d s r.0

stored_by_lem : (t : Tested) (bytes : List ℕ) (k : StoreMarks) → length bytes ≡ 512 →
    (length (stored_by t bytes k).next.store ≡ length k.store) × (length (stored_by t bytes k).next.marks ≡ length k.marks)
stored_by_lem (Ok spot) bytes k b = stored_lengths k spot.index bytes b
stored_by_lem (Err e) bytes k b = (refl, refl)

pub sector-stored : (s : State) (bytes store marks : List ℕ) → length bytes ≡ 512 →
    (length (sector_stored s bytes store marks).next.store ≡ length store) × (length (sector_stored s bytes store marks).next.marks ≡ length marks)
unfolding sector_stored
sector-stored s bytes store marks b = stored_by_lem (sector_test Out s marks) bytes (store_marks store marks s.bad) b

-- the number of marks that are not 0 does not rise, and so it still fits
less_by : (t : Tested) (bytes : List ℕ) (k : StoreMarks) → (stored_by t bytes k).next.bad ≤ k.bad
less_by (Ok spot) bytes k = stored_less k spot.index bytes
less_by (Err e) bytes k = le_refl k.bad

pub lower_fine : (d : Made) (s : State) (bytes store marks : List ℕ) → Fine d s → Fine d (with_bad (sector_stored s bytes store marks).next.bad s)
unfolding sector_stored bad_fits
lower_fine d s bytes store marks f =
    let l = less_by (sector_test Out s marks) bytes (store_marks store marks s.bad) in
    let h = leb-true s.bad (total_in s) f.0.5 in
    let b = (sector_stored s bytes store marks).next.bad in
    ((f.0.0, f.0.1, f.0.2, f.0.3, f.0.4, le-leb b (total_in s) (omega arith), f.0.6), f.1)

lower_ready : (d : Made) (s : State) (bytes store marks : List ℕ) → Ready d s → Ready d (with_bad (sector_stored s bytes store marks).next.bad s)
unfolding in_reset
lower_ready d s bytes store marks r = (lower_fine d s bytes store marks r.0, r.1)

pub load_written_lem : (load : Load) (d : Made) (m : Machine) → Ready d m.state → LoadFits load m.state → Next d m (load_written load m)
load_written_lem Buffer d m r e = (ended-left End.Good d m.state r.0, lent_same m)
load_written_lem (Sectors left p) d m r e =
    let k = sector_stored m.state m.buffer m.store m.marks in (
      written-left k.outcome (left - 1) (pace_after p) d (with_bad k.next.bad m.state) (few left p m.state e.0) (lower_ready d m.state m.buffer m.store m.marks r)
          (on_pace left p m.state.block e.1),
      λ b. let w = sector-stored m.state m.buffer m.store m.marks b in (w.0, w.1, b),
    )
