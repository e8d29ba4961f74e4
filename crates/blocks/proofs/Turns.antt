-- What the last byte of a sector does to the blocks of a running transfer: a sector more, or the end.
use Rattle.std.proofs.Common.{Ok, Err}
use Prim.Native.Nat.{ℕ, ◌+◌, ◌-◌}
use mathlib.Core.Bool.{Bool, true, false}
use mathlib.Core.Path.{◌≡◌, refl}
use mathlib.Core.Logic.{◌⊎◌, inl, inr}
use mathlib.Core.List.{List}
use lib.Dec.{eqb}
use Rattle.ground.proofs.Picks.{pick-elim, un_not}
use Rattle.registers.specs.State.{located_in, with_bad}
use Rattle.registers.specs.declared.Pace.{Pace}
use Rattle.registers.specs.declared.Load.TheVariants.{Sectors}
use Rattle.registers.specs.declared.Transfer.{Transfer}
use Rattle.registers.specs.declared.Phase.{Phase}
use Rattle.registers.specs.declared.Phase.TheVariants.{Idle}
use Rattle.registers.specs.declared.State.{State}
use Rattle.registers.specs.declared.Core.{Core}
use Rattle.registers.specs.Blocks.{pace_after}
use Rattle.registers.specs.Machine.{Machine, machine}
use Rattle.registers.specs.WellMade.{load_fits, sectors_fit}
use Rattle.transfers.specs.declared.Order.TheVariants.{Later}
use Rattle.transfers.specs.declared.End.{End}
use Rattle.transfers.specs.declared.Way.{Way}
use Rattle.transfers.specs.declared.Way.TheVariants.{In, Out}
use Rattle.transfers.specs.Before.{address_test, sector_test, sector_stored, stored_by, Tested}
use Rattle.transfers.specs.Steps.{sector_done, read_tested, read_sector, next_read, load_read, ask_tested, ask_sector, next_asked, core_written, load_written, all_moved, idle_with}
use Rattle.kept.proofs.Ends.{LoadFits, address_elim, mark_elim}
use Rattle.kept.proofs.Data.{phase_of}
use Rattle.laws.specs.Acts.{DataRead, DataWrite, last_of_load}
use Rattle.laws.specs.Interrupt.{drq_set, another, sets}
use Rattle.laws.proofs.InterruptLaws.{turn_sets, end_sets_lem, well_sets}
use Rattle.laws.proofs.InterruptData.{proper, read_proper, left_facts}
use Rattle.sectors.specs.Marks.{writable}
use Rattle.sectors.specs.Sectors.{store_marks}

-- the transfer that runs, of so many sectors at such a pace
abbrev pub Runs : Way → ℕ → Pace → Phase → Type 0
Runs way left k p = (t : Transfer) × (p ≡ phase_of way t) × (t.load ≡ Sectors left k)

-- a good end of reading leaves the interrupt mark, one of writing sets it
abbrev pub end_sets : Way → Bool
end_sets In = false
end_sets Out = true

-- what comes of it: p is the phase after it, s the state, b whether it sets the mark
abbrev Stays : Way → ℕ → Pace → Phase → Bool → Type 0
Stays way left k p b = Runs way left k p × (b ≡ false)

abbrev GoesOn : Way → ℕ → Pace → Phase → Bool → Type 0
GoesOn way left k p b = Runs way (left - 1) (pace_after k) p × (eqb (left - 1) 0 ≡ false) × (b ≡ eqb (k.place + 1) k.stride)

abbrev EndsSo : Way → ℕ → Phase → Bool → Type 0
EndsSo way left p b = (p ≡ Idle) × (eqb (left - 1) 0 ≡ true) × (b ≡ end_sets way)

abbrev pub FailsSo : Phase → State → Type 0
FailsSo p s = (p ≡ Idle) × (eqb s.registers.status 0x50 ≡ false)

abbrev pub Comes : Way → ℕ → Pace → Machine → Bool → Type 0
Comes way left k n b = (Stays way left k n.phase b ⊎ GoesOn way left k n.phase b) ⊎ (EndsSo way left n.phase b ⊎ FailsSo n.phase n.state)

-- ---- the last byte of a sector

read_comes : (x : Tested) (left : ℕ) (k : Pace) (s : State) (m : Machine) → proper x ≡ true → drq_set s ≡ true → another s m.state ≡ true → eqb (left - 1) 0 ≡ false →
    let n = read_tested x (left - 1) (pace_after k) m in Comes In left k n (sets (DataRead (last_of_load (Sectors left k))) s n.state)
read_comes (Ok spot) left k s m p d c e = inl (inr ((_, refl, refl), e, turn_sets In (last_of_load (Sectors left k)) s _ d refl c))
read_comes (Err f) left k s m p d c e = inr (inr (refl, un_not _ _ p))

pub load_read_lem : (left : ℕ) (k : Pace) (m : Machine) → drq_set m.state ≡ true → LoadFits (Sectors left k) m.state →
    let n = load_read (Sectors left k) (all_moved m) in Comes In left k n (sets (DataRead (last_of_load (Sectors left k))) m.state n.state)
unfolding next_read read_sector
load_read_lem left k m d f =
    pick-elim (λ (n : Machine). Comes In left k n (sets (DataRead (last_of_load (Sectors left k))) m.state n.state)) (eqb (left - 1) 0) _ _
    (λ e. inr (inl (refl, e, well_sets (last_of_load (Sectors left k)) m.state _ d refl refl)))
    (λ e. read_comes (sector_test In (sector_done (left - 1) m.state) m.marks) left k m.state _ (read_proper _ m.marks) d (left_facts left k m.state f.0 e) e)

ask_comes : (x : Tested) (left : ℕ) (k : Pace) (s n : State) (b t m : List ℕ) → proper x ≡ true → drq_set s ≡ true → another s n ≡ true → eqb (left - 1) 0 ≡ false →
    let c = ask_tested x (left - 1) (pace_after k) Later n in Comes Out left k (machine c b t m) (sets (DataWrite (last_of_load (Sectors left k))) s c.state)
ask_comes (Ok spot) left k s n b t m p d c e = inl (inr ((_, refl, refl), e, turn_sets Out (last_of_load (Sectors left k)) s _ d refl c))
ask_comes (Err f) left k s n b t m p d c e = inr (inr (refl, un_not _ _ p))

pub ask_proper : (s : State) → proper (address_test s) ≡ true
unfolding address_test
ask_proper s = address_elim (λ (x : Tested). proper x ≡ true) (located_in s) (λ spot g. refl) (λ e b. b)

write_proper : (s : State) (bytes store marks : List ℕ) → proper (sector_stored s bytes store marks).outcome ≡ true
unfolding sector_stored sector_test address_test
write_proper s bytes store marks =
    mark_elim (λ (x : Tested). proper (stored_by x bytes (store_marks store marks s.bad)).outcome ≡ true) writable End.WriteFault marks (located_in s) refl (λ spot g. refl) (λ e b. b)

written_comes : (x : Tested) (left : ℕ) (k : Pace) (b : ℕ) (s : State) (u t m : List ℕ) → proper x ≡ true → drq_set s ≡ true → LoadFits (Sectors left k) s →
    let c = core_written x (left - 1) (pace_after k) (with_bad b s) in Comes Out left k (machine c u t m) (sets (DataWrite (last_of_load (Sectors left k))) s c.state)
unfolding next_asked ask_sector load_fits sectors_fit
written_comes (Ok spot) left k b s u t m p d f =
    let n = with_bad b s in
    pick-elim (λ (c : Core). Comes Out left k (machine c u t m) (sets (DataWrite (last_of_load (Sectors left k))) s c.state)) (eqb (left - 1) 0) _ _
    (λ e. inr (inl (refl, e, end_sets_lem (last_of_load (Sectors left k)) s _ d refl)))
    (λ e. ask_comes (address_test (sector_done (left - 1) n)) left k s (sector_done (left - 1) n) u t m (ask_proper _) d (left_facts left k n f.0 e) e)
written_comes (Err f) left k b s u t m p d g = inr (inr (refl, un_not _ _ p))

pub load_written_lem : (left : ℕ) (k : Pace) (s : State) (m : Machine) → drq_set s ≡ true → LoadFits (Sectors left k) s →
    let n = load_written (Sectors left k) (idle_with s m) in Comes Out left k n (sets (DataWrite (last_of_load (Sectors left k))) s n.state)
load_written_lem left k s m d f =
    let x = sector_stored s m.buffer m.store m.marks in
    written_comes x.outcome left k x.next.bad s m.buffer x.next.store x.next.marks (write_proper s m.buffer m.store m.marks) d f
