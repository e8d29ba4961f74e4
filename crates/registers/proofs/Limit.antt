-- What 02 makes of "well made", in its own words: "Eight": "Well-made cards now need it to be at most N"; "One": "Well-made cards have none or one of these, and
-- one while C4H or C5H runs, with fewer sectors of the running block moved than that".
use Prim.Native.Nat.{ℕ, ◌≤◌, ◌<◌}
use mathlib.Core.Path.{◌≡◌}
use mathlib.Core.Bool.{false}
use borrow.Author.Tests.{lt-leb, le-ltb, ne_eqb}
use Rattle.ground.proofs.Picks.{pick_same}
use Rattle.ground.proofs.Every.{one_fails}
use Rattle.geometry.specs.Limits.{total_of}
use Rattle.registers.specs.declared.Pace.{Pace}
use Rattle.registers.specs.declared.Load.{Load}
use Rattle.registers.specs.declared.Load.TheVariants.{Sectors}
use Rattle.registers.specs.declared.Phase.{Phase}
use Rattle.registers.specs.declared.Phase.TheVariants.{Idle, DataIn, DataOut}
use Rattle.registers.specs.declared.State.{State}
use Rattle.registers.specs.Blocks.{block_size}
use Rattle.registers.specs.WellMade.{well_made, bad_fits, block_fits, stride_fits, pace_fits, load_pace_fits, run_pace_fits}

-- a card that keeps a larger number is not well made, whatever else it is
pub too_many_bad : (p : Phase) (s : State) → total_of s.made.default < s.bad → well_made p s ≡ false
unfolding well_made bad_fits
too_many_bad p s h = one_fails _ 8 (lt-leb s.bad (total_of s.made.default) h)

-- a block that is none of the five, and not none
abbrev Not : ℕ → ℕ → Type 0
Not n k = n ≡ k → ⊥

pub no_such_block : (p : Phase) (s : State) → let b = s.block in Not b 0 → Not b 1 → Not b 2 → Not b 4 → Not b 8 → Not b 16 → well_made p s ≡ false
unfolding well_made block_fits block_size
no_such_block p s a b c d e f =
    one_fails _ 9
    (rw (ne_eqb s.block 0 a, ne_eqb s.block 1 b, ne_eqb s.block 2 c, ne_eqb s.block 4 d, ne_eqb s.block 8 e, ne_eqb s.block 16 f))

-- a transfer that runs with this load
abbrev Moving : Phase → Load → Type 0
Moving Idle l = ⊥
Moving (DataIn t) l = t.load ≡ l
Moving (DataOut t) l = t.load ≡ l

run_pace : (p : Phase) (l : Load) (b : ℕ) → Moving p l → load_pace_fits l b ≡ false → run_pace_fits p b ≡ false
unfolding run_pace_fits
run_pace Idle l b m e = absurd m
run_pace (DataIn t) l b m e = rw m e
run_pace (DataOut t) l b m e = rw m e

-- as many sectors of the running block moved as it has, or more
pub too_many_moved : (p : Phase) (s : State) (left : ℕ) (k : Pace) → Moving p (Sectors left k) → k.stride ≤ k.place → well_made p s ≡ false
unfolding well_made load_pace_fits pace_fits
too_many_moved p s left k m h =
    one_fails _ 10 (run_pace p (Sectors left k) s.block m (rw (le-ltb k.place k.stride h) (pick_same (stride_fits k.stride s.block) false)))

-- sectors neither singly nor by the card's block: "one while C4H or C5H runs"
pub other_stride : (p : Phase) (s : State) (left : ℕ) (k : Pace) → Moving p (Sectors left k) → Not k.stride 1 → Not k.stride s.block → well_made p s ≡ false
unfolding well_made load_pace_fits pace_fits stride_fits
other_stride p s left k m a b = one_fails _ 10 (run_pace p (Sectors left k) s.block m (rw (ne_eqb k.stride 1 a, ne_eqb k.stride s.block b)))
