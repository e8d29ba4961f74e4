-- The interrupt mark at a data access: every word of a running transfer keeps the rule.
use Rattle.std.proofs.Common.{Ok, Err}
use Prim.Native.Nat.{ℕ, ◌-◌, ◌%◌, ◌≤◌}
use mathlib.Core.Path.{◌≡◌, refl, ap, subst}
use mathlib.Core.Bool.{Bool, true, false, not}
use mathlib.Core.List.{List, [], ◌∷◌}
use native.Mathlib.Omega.{arith}
use lib.Dec.{leb, eqb}
use borrow.Author.Tests.{leb-true, eqb-true, ne_eqb}
use Rattle.ground.proofs.Picks.{pick-elim, un_not}
use Rattle.ground.proofs.Every.{each}
use Rattle.sectors.specs.Marks.{readable}
use Rattle.maps.specs.declared.Port.{Port}
use Rattle.registers.specs.declared.Pace.{Pace}
use Rattle.registers.specs.declared.Load.{Load}
use Rattle.registers.specs.declared.Load.TheVariants.{Sectors, Buffer}
use Rattle.registers.specs.declared.Transfer.{Transfer}
use Rattle.registers.specs.declared.Phase.{Phase}
use Rattle.registers.specs.declared.State.{State}
use Rattle.registers.specs.declared.Core.{Core}
use Rattle.registers.specs.State.{with_bad, located_in}
use Rattle.registers.specs.Machine.{Machine}
use Rattle.registers.specs.Blocks.{pace_after}
use Rattle.registers.specs.WellMade.{status_fits, sectors_fit, load_fits, run_fits, load_pace_fits, run_pace_fits}
use Rattle.geometry.specs.Address.{valid_address}
use Rattle.transfers.specs.declared.Order.TheVariants.{Later}
use Rattle.transfers.specs.declared.End.TheVariants.{Unreadable}
use Rattle.transfers.specs.declared.Way.{Way}
use Rattle.transfers.specs.declared.Way.TheVariants.{In, Out}
use Rattle.transfers.specs.Before.{address_test, sector_test, sector_stored, Tested}
use Rattle.transfers.specs.Steps.{idle_with, sector_done, read_tested, read_sector, next_read, load_read, ask_tested, ask_sector, next_asked, core_written, load_written, all_moved}
use Rattle.port.specs.Data.{Effect, data_read, data_written}
use Rattle.kept.proofs.Data.{phase_of}
use Rattle.kept.proofs.Paces.{pace_apart, after-starts}
use Rattle.kept.proofs.Ends.{LoadFits, erring, mark_elim, done_count}
use Rattle.kept.proofs.DataElim.{part_come, data_read_elim, data_written_elim}
use Rattle.laws.specs.Interrupt.{drq_set, another, InterruptRule}
use Rattle.laws.specs.Acts.{DataRead, DataWrite, last_of_load, last_of_block}
use Rattle.laws.proofs.InterruptLaws.{still, turned, written_end, read_failed, read_well}
use Rattle.laws.proofs.InterruptEnds.{end_drq}

-- ---- a test that fails is an end in error

abbrev pub proper : Tested → Bool
proper (Ok spot) = true
proper (Err e) = erring e

pub read_proper : (s : State) (marks : List ℕ) → proper (sector_test In s marks) ≡ true
unfolding sector_test address_test
read_proper s marks = mark_elim (λ (t : Tested). proper t ≡ true) readable Unreadable marks (located_in s) refl (λ spot f. refl) (λ e b. b)

-- ---- Sector Count goes down by one

counts_down : (left count : ℕ) → 1 ≤ left → left % 256 ≡ count → not (eqb count ((left - 1) % 256)) ≡ true
counts_down left count h e = ap not (ne_eqb count ((left - 1) % 256) (λ x. omega arith))

-- what a running sector transfer has in its registers
pub left_facts : (left : ℕ) (k : Pace) (s : State) → load_fits (Sectors left k) s ≡ true → eqb (left - 1) 0 ≡ false → another s (sector_done (left - 1) s) ≡ true
unfolding load_fits sectors_fit
left_facts left k s f e =
    let t = each (valid_address (located_in s) ∷ leb 1 left ∷ leb left 256 ∷ eqb (left % 256) s.registers.count ∷ []) f in
    rw (← done_count (left - 1) s) (counts_down left s.registers.count (leb-true _ _ (t 1)) (eqb-true _ _ (t 3)))

-- 02, "One": the next sector is the first of its block where this one is the last
pub next-starts : (left : ℕ) (k : Pace) (b : ℕ) → load_pace_fits (Sectors left k) b ≡ true → eqb (pace_after k).place 0 ≡ last_of_load (Sectors left k)
unfolding load_pace_fits
next-starts left k b e = after-starts k.stride k.place (pace_apart k b e).1

-- ---- reading

read_tested_lem : (t : Tested) (left : ℕ) (k : Pace) (last : Bool) (s : State) (m : Machine) → proper t ≡ true → drq_set s ≡ true → another s m.state ≡ true →
    eqb k.place 0 ≡ last → m.state.interrupt ≡ s.interrupt → InterruptRule (DataRead last) s (read_tested t left k m).state
read_tested_lem (Ok spot) left k last s m p a d q i = turned In last s (read_tested (Ok spot) left k m).state a refl d (rw (q, i))
read_tested_lem (Err e) left k last s m p a d q i = read_failed last s (read_tested (Err e) left k m).state a (end_drq e) (un_not _ _ p) refl

done_interrupt : (left : ℕ) (s : State) → (sector_done left s).interrupt ≡ s.interrupt
unfolding sector_done
done_interrupt left s = pick-elim (λ (x : State). x.interrupt ≡ s.interrupt) (eqb left 0) _ _ (λ e. refl) (λ e. refl)

load_read_lem : (l : Load) (m : Machine) → drq_set m.state ≡ true → LoadFits l m.state → InterruptRule (DataRead (last_of_load l)) m.state (load_read l (all_moved m)).state
unfolding next_read read_sector
load_read_lem Buffer m a f = read_well true m.state (load_read Buffer (all_moved m)).state a refl refl refl
load_read_lem (Sectors left k) m a f =
    pick-elim (λ (n : Machine). InterruptRule (DataRead (last_of_load (Sectors left k))) m.state n.state) (eqb (left - 1) 0) _ _
    (λ e. read_well (last_of_load (Sectors left k)) m.state _ a refl refl (done_interrupt (left - 1) m.state))
    (λ e.
    read_tested_lem (sector_test In (sector_done (left - 1) m.state) m.marks) (left - 1) (pace_after k) (last_of_load (Sectors left k)) m.state _ (read_proper _ m.marks) a
    (left_facts left k m.state f.0 e) (next-starts left k m.state.block f.1) (done_interrupt (left - 1) m.state))

-- what a well-made card has: Status and the transfer fit the phase
abbrev pub StatusAndLoadFit : Phase → State → Type 0
StatusAndLoadFit p s = (status_fits p s.registers.status ≡ true) × (run_fits p s ≡ true) × (run_pace_fits p s.block ≡ true)

-- so, where a transfer runs, it asks for data, and its load fits
pub running : (way : Way) (t : Transfer) (p : Phase) (s : State) → p ≡ phase_of way t → StatusAndLoadFit p s → (drq_set s ≡ true) × LoadFits t.load s
unfolding status_fits run_fits run_pace_fits
running In t p s e r = let x = subst (λ (p : Phase). StatusAndLoadFit p s) e r in (x.0, (x.1, x.2))
running Out t p s e r = let x = subst (λ (p : Phase). StatusAndLoadFit p s) e r in (x.0, (x.1, x.2))

pub data_read_lem : (port : Port) (m : Machine) → StatusAndLoadFit m.phase m.state → InterruptRule (DataRead (last_of_block m.phase)) m.state (data_read port m).next.state
data_read_lem port m r =
    let z = still In (last_of_block m.phase) m.state m.state refl refl refl in
    data_read_elim (λ (x : Effect). InterruptRule (DataRead (last_of_block m.phase)) m.state x.next.state) port m (λ v. z) z (λ v part t e. z) (λ v t e w. z)
    (λ v t e. let a = running In t m.phase m.state e r in rw e (load_read_lem t.load m a.0 a.1))

-- ---- writing

ask_tested_lem : (t : Tested) (left : ℕ) (k : Pace) (last : Bool) (s n : State) → drq_set s ≡ true → another s n ≡ true → eqb k.place 0 ≡ last → n.interrupt ≡ s.interrupt →
    InterruptRule (DataWrite last) s (ask_tested t left k Later n).state
ask_tested_lem (Ok spot) left k last s n a d q i = turned Out last s (ask_tested (Ok spot) left k Later n).state a refl d (rw (q, i))
ask_tested_lem (Err e) left k last s n a d q i = written_end last s (ask_tested (Err e) left k Later n).state a (end_drq e) refl

-- with any number of marks that are not 0
core-written : (t : Tested) (left : ℕ) (k : Pace) (b : ℕ) (s : State) → drq_set s ≡ true → LoadFits (Sectors left k) s →
    InterruptRule (DataWrite (last_of_load (Sectors left k))) s (core_written t (left - 1) (pace_after k) (with_bad b s)).state
unfolding next_asked ask_sector load_fits sectors_fit
core-written (Ok spot) left k b s a f =
    let n = with_bad b s in
    let last = last_of_load (Sectors left k) in
    pick-elim (λ (x : Core). InterruptRule (DataWrite last) s x.state) (eqb (left - 1) 0) _ _
    (λ e. written_end last s _ a refl refl)
    (λ e.
    ask_tested_lem (address_test (sector_done (left - 1) n)) (left - 1) (pace_after k) last s (sector_done (left - 1) n) a (left_facts left k n f.0 e)
    (next-starts left k s.block f.1) (done_interrupt (left - 1) n))
core-written (Err e) left k b s a f = written_end (last_of_load (Sectors left k)) s (core_written (Err e) (left - 1) (pace_after k) (with_bad b s)).state a (end_drq e) refl

load_written_lem : (l : Load) (s : State) (m : Machine) → drq_set s ≡ true → LoadFits l s → InterruptRule (DataWrite (last_of_load l)) s (load_written l (idle_with s m)).state
load_written_lem Buffer s m a f = written_end true s (load_written Buffer (idle_with s m)).state a refl refl
load_written_lem (Sectors left p) s m a f =
    let k = sector_stored s m.buffer m.store m.marks in core-written k.outcome left p k.next.bad s a f

pub data_written_lem : (port : Port) (v : ℕ) (m : Machine) → StatusAndLoadFit m.phase m.state → InterruptRule (DataWrite (last_of_block m.phase)) m.state (data_written port v m).next.state
data_written_lem port v m r =
    let z = still Out (last_of_block m.phase) m.state m.state refl refl refl in
    data_written_elim (λ (x : Effect). InterruptRule (DataWrite (last_of_block m.phase)) m.state x.next.state) port v m z z (λ part t e. z) (λ part t e w. z)
    (λ part t e. let a = running Out t m.phase m.state e r in rw e (load_written_lem t.load m.state (part_come part t v m) a.0 a.1))
