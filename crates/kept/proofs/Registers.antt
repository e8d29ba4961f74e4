-- "Well made" taken apart: what the state alone must fulfil, and what it must fulfil for the phase; register reads and writes keep both.
use Prim.Native.Nat.{ℕ, ◌<◌, ◌≤◌}
use mathlib.Core.Bool.{true, false, true≢false}
use mathlib.Core.Path.{◌≡◌, refl}
use borrow.Author.Tests.{le-leb}
use Rattle.ground.specs.Choice.{every}
use Rattle.geometry.specs.Limits.{fits, current_for}
use Rattle.ground.proofs.Every.{each}
use Rattle.maps.specs.declared.Register.{Register}
use Rattle.registers.specs.declared.Load.{Load}
use Rattle.registers.specs.declared.Load.TheVariants.{Sectors, Buffer}
use Rattle.registers.specs.declared.Phase.{Phase}
use Rattle.registers.specs.declared.Phase.TheVariants.{Idle, DataIn, DataOut}
use Rattle.registers.specs.declared.Made.{Made}
use Rattle.registers.specs.declared.State.{State}
use Rattle.registers.specs.declared.Core.{Core}
use Rattle.registers.specs.State.{runs, with_interrupt, with_bad, total_in, located_in}
use Rattle.registers.specs.Machine.{core}
use Rattle.registers.specs.WellMade.{well_made, index_fits, sreset_fits, status_fits, in_reset, hold_fits, words_fit, sectors_fit, load_fits, run_fits, bad_fits, block_fits, run_pace_fits}
use Rattle.registers.specs.Values.{after_read, register_set}
use Rattle.kept.specs.Sound.{CountFits}
use Rattle.kept.proofs.RegisterElim.{read_elim, set-elim}

-- the conditions that no phase enters, of a card that was made as d
abbrev pub StateFits : Made → State → Type 0
StateFits d s =
    (s.made ≡ d)
    × (fits s.made.default ≡ true)
    × (current_for s.current (total_in s) ≡ true)
    × (index_fits s.option ≡ true)
    × (sreset_fits s.made.mode s.option ≡ true)
    × (bad_fits s.bad (total_in s) ≡ true)
    × (block_fits s.block ≡ true)

-- the conditions on a phase
abbrev pub PhaseFits : Phase → State → Type 0
PhaseFits p s =
    (status_fits p s.registers.status ≡ true)
    × (hold_fits p (in_reset s) ≡ true)
    × (words_fit p ≡ true)
    × (run_fits p s ≡ true)
    × (run_pace_fits p s.block ≡ true)

-- what a change leaves
abbrev pub CoreFits : Made → Core → Type 0
CoreFits d k = StateFits d k.state × PhaseFits k.phase k.state × CountFits k.state

pub apart : (p : Phase) (s : State) → well_made p s ≡ true → StateFits s.made s × PhaseFits p s
unfolding well_made
apart p s e = let t = each _ e in ((refl, t 0, t 1, t 2, t 3, t 8, t 9), (t 4, t 5, t 6, t 7, t 10))

pub together : (d : Made) (p : Phase) (s : State) → StateFits d s → PhaseFits p s → well_made p s ≡ true
unfolding well_made every
together d p s f r = rw (f.1, f.2, f.3, f.4, r.0, r.1, r.2, r.3, f.5, f.6, r.4)

-- what a running transfer is tested by: where its address points, and Sector Count
pub load_same : (l : Load) (s t : State) → located_in t ≡ located_in s → t.registers.count ≡ s.registers.count → load_fits l s ≡ true → load_fits l t ≡ true
unfolding load_fits sectors_fit
load_same Buffer s t e f h = refl
load_same (Sectors left pace) s t e f h = rw (e, f) h

pub run_same : (p : Phase) (s t : State) → located_in t ≡ located_in s → t.registers.count ≡ s.registers.count → run_fits p s ≡ true → run_fits p t ≡ true
unfolding run_fits
run_same Idle s t e f h = refl
run_same (DataIn x) s t e f h = load_same x.load s t e f h
run_same (DataOut x) s t e f h = load_same x.load s t e f h

-- 02, "Eight": any number of marks that are not 0 up to N is as good as another
pub any_number_well : (p : Phase) (s : State) (b : ℕ) → b ≤ total_in s → well_made p s ≡ true → well_made p (with_bad b s) ≡ true
unfolding in_reset bad_fits
any_number_well p s b l e =
    let a = apart p s e in
    let f = a.0 in
    let r = a.1 in
    together s.made p (with_bad b s) (f.0, f.1, f.2, f.3, f.4, le-leb b (total_in s) l, f.6) (r.0, r.1, r.2, run_same p s (with_bad b s) refl refl r.3, r.4)

-- with no transfer running only Status is tested
idle-fits : (p : Phase) (s t : State) → runs p ≡ false → t.registers.status ≡ s.registers.status → PhaseFits p s → PhaseFits p t
unfolding status_fits hold_fits words_fit run_fits run_pace_fits
idle-fits Idle s t e f r = (rw f r.0, refl, refl, refl, refl)
idle-fits (DataIn x) s t e f r = absurd (true≢false e)
idle-fits (DataOut x) s t e f r = absurd (true≢false e)

pub read_left : (r : Register) (d : Made) (p : Phase) (s : State) → CoreFits d (core p s) → CoreFits d (core p (after_read r s))
unfolding in_reset
read_left r d p s f =
    read_elim (λ (x : State). CoreFits d (core p x)) r s f (f.0, (f.1.0, f.1.1, f.1.2, run_same p s (with_interrupt false s) refl refl f.1.3, f.1.4), f.2)

-- a register that is set is neither Status nor the map setting nor a geometry
set_stands : (r : Register) (v : ℕ) (d : Made) (s : State) → v < 256 → StateFits d s → CountFits s →
    StateFits d (register_set r v s) × CountFits (register_set r v s) × ((register_set r v s).registers.status ≡ s.registers.status)
set_stands r v d s b f c =
    set-elim (λ (x : State). StateFits d x × CountFits x × (x.registers.status ≡ s.registers.status)) r v s (f, c, refl) (f, b, refl) (λ a. (f, c, refl))

-- with no transfer running
pub set-left : (r : Register) (v : ℕ) (d : Made) (p : Phase) (s : State) → v < 256 → runs p ≡ false → CoreFits d (core p s) → CoreFits d (core p (register_set r v s))
set-left r v d p s b h f =
    let g = set_stands r v d s b f.0 f.2 in
    (g.0, idle-fits p s (register_set r v s) h g.2 f.1, g.1)
