-- How often the interrupt mark is set from the middle of a transfer of sectors to its good end.
use Prim.Native.Nat.{ℕ, zero, suc, ◌+◌, ◌-◌, ◌*◌, ◌≤◌, ◌<◌}
use mathlib.Core.Bool.{Bool, true, false, true≢false}
use mathlib.Core.Path.{◌≡◌, refl, sym, ap, ◌∙◌, subst}
use mathlib.Core.Logic.{inl, inr}
use mathlib.Core.List.{List, [], ◌∷◌}
use native.Mathlib.Nat.{suc-mul}
use native.Mathlib.Omega.{arith}
use lib.Dec.{eqb}
use borrow.Author.Tests.{leb-true, eqb-true, eqb-false, eq-eqb, lt-ltb}
use Rattle.ground.specs.Choice.{pick}
use Rattle.ground.proofs.Every.{each}
use Rattle.registers.specs.declared.Pace.{Pace}
use Rattle.registers.specs.declared.Load.{Load}
use Rattle.registers.specs.declared.Load.TheVariants.{Sectors}
use Rattle.registers.specs.declared.Phase.TheVariants.{Idle}
use Rattle.registers.specs.declared.State.{State}
use Rattle.registers.specs.Blocks.{place_after, pace_after}
use Rattle.registers.specs.State.{runs}
use Rattle.registers.specs.Machine.{Machine}
use Rattle.registers.specs.WellMade.{sectors_fit, load_fits, load_pace_fits}
use Rattle.transfers.specs.declared.Way.{Way}
use Rattle.card.specs.Access.{Asked, meaning}
use Rattle.card.specs.Step.{step, play}
use Rattle.kept.specs.Sound.{Sound}
use Rattle.kept.proofs.Registers.{apart}
use Rattle.kept.proofs.Ends.{LoadFits}
use Rattle.kept.proofs.Paces.{pace_apart, after-starts}
use Rattle.kept.proofs.Step.{sound_kept}
use Rattle.laws.proofs.InterruptData.{running}
use Rattle.account.specs.Host.{asks}
use Rattle.blocks.specs.Marks.{marks_set, EndsWell}
use Rattle.blocks.proofs.Seen.{seen}
use Rattle.blocks.proofs.Turns.{Runs, end_sets, Comes}
use Rattle.blocks.proofs.Comes.{runs_so, comes}

-- what a well-made card says of the transfer that runs: a sector is left, and the place is below the stride
left_one : (left : ℕ) (k : Pace) (s : State) → load_fits (Sectors left k) s ≡ true → 1 ≤ left
unfolding load_fits sectors_fit
left_one left k s e = leb-true 1 left (each _ e 1)

place_fits : (left : ℕ) (k : Pace) (b : ℕ) → load_pace_fits (Sectors left k) b ≡ true → k.place < k.stride
unfolding load_pace_fits
place_fits left k b e = (pace_apart k b e).1

pub facts : (way : Way) (left : ℕ) (k : Pace) (m : Machine) → Sound m → Runs way left k m.phase → (1 ≤ left) × (k.place < k.stride)
facts way left k m s r =
    let f = (apart m.phase m.state s.made).1 in
    let x = (running way r.0 m.phase m.state r.1 (f.0, f.3, f.4)).1 in
    let y = subst (λ (l : Load). LoadFits l m.state) r.2 x in
    (left_one left k m.state y.0, place_fits left k m.state.block y.1)

-- the place after a sector that is the last of its block, or is not
pub place_zero : (stride place : ℕ) → place < stride → eqb (place + 1) stride ≡ true → place_after stride place ≡ 0
place_zero stride place l e = eqb-true (place_after stride place) 0 (after-starts stride place l ∙ e)

pub place_more : (stride place : ℕ) → place < stride → eqb (place + 1) stride ≡ false → place_after stride place ≡ place + 1
unfolding place_after
place_more stride place l e = let n = eqb-false (place + 1) stride e in rw (lt-ltb (place + 1) stride (omega arith)) refl

abbrev pub one : Bool → ℕ
one b = pick b 1 0

-- what is claimed of the accesses l and a transfer with q whole blocks, and a part of r, still to come after the sector at hand
abbrev Claim : List Asked → Type 0
Claim l = (way : Way) (left : ℕ) (k : Pace) (m : Machine) (q r : ℕ) → Sound m → Runs way left k m.phase → k.place + left ≡ suc (q * k.stride + r) → r < k.stride → EndsWell m l →
    marks_set m l ≡ q + one (end_sets way)

pub idle-asks : (n : Machine) → n.phase ≡ Idle → asks n ≡ false
idle-asks n e = ap runs e

-- a card that asks no more ends the list
pub ended : (l : List Asked) (n : Machine) → n.phase ≡ Idle → EndsWell n l → (marks_set n l ≡ 0) × (eqb n.state.registers.status 0x50 ≡ true)
unfolding marks_set play
ended [] n e w = (refl, eq-eqb n.state.registers.status 0x50 w.1)
ended (a ∷ l) n e w = absurd (true≢false (sym w.0.0 ∙ idle-asks n e))

turn_up : (l : List Asked) (way : Way) (left stride place q r : ℕ) (n : Machine) → Claim l → Sound n → Runs way (left - 1) (pace_after (record { stride = stride; place = place })) n.phase →
    1 ≤ left → place < stride → eqb (left - 1) 0 ≡ false → place + left ≡ suc (q * stride + r) → r < stride → EndsWell n l → (b : Bool) → eqb (place + 1) stride ≡ b →
    one b + marks_set n l ≡ q + one (end_sets way)
turn_up l way left stride place zero r n h s u g p z e f w true v =
    let x = eqb-true (place + 1) stride v in
    let y = eqb-false (left - 1) 0 z in
    absurd (omega arith)
turn_up l way left stride place (suc q) r n h s u g p z e f w true v =
    let x = eqb-true (place + 1) stride v in
    let y = eqb-false (left - 1) 0 z in
    let t = suc-mul q stride in
    let i = place_zero stride place p v in
    let c = h way (left - 1) (pace_after (record { stride = stride; place = place })) n q r s u (rw i (omega arith)) f w in
    omega arith
turn_up l way left stride place q r n h s u g p z e f w false v =
    let y = eqb-false (left - 1) 0 z in
    let i = place_more stride place p v in
    let c = h way (left - 1) (pace_after (record { stride = stride; place = place })) n q r s u (rw i (omega arith)) f w in
    omega arith

none_left : (stride place q r : ℕ) → place < stride → place ≡ q * stride + r → q ≡ 0
none_left stride place zero r l e = refl
none_left stride place (suc q) r l e = let t = suc-mul q stride in absurd (omega arith)

after : (l : List Asked) (way : Way) (left : ℕ) (k : Pace) (n : Machine) (b : Bool) (q r : ℕ) → Claim l → Comes way left k n b → Sound n → 1 ≤ left → k.place < k.stride →
    k.place + left ≡ suc (q * k.stride + r) → r < k.stride → EndsWell n l → one b + marks_set n l ≡ q + one (end_sets way)
after l way left k n b q r h (inl (inl x)) s g p e f w = rw x.1 (let c = h way left k n q r s x.0 e f w in omega arith)
after l way left k n b q r h (inl (inr x)) s g p e f w = rw x.2 (turn_up l way left k.stride k.place q r n h s x.0 g p x.1 e f w _ refl)
after l way left k n b q r h (inr (inl x)) s g p e f w =
    let y = eqb-true (left - 1) 0 x.1 in
    let z : q ≡ 0 = none_left k.stride k.place q r p (omega arith) in
    rw (x.2, (ended l n x.0 w).0, z) (omega arith)
after l way left k n b q r h (inr (inr x)) s g p e f w = absurd (true≢false (sym (ended l n x.0 w).1 ∙ x.1))

pub counted : (l : List Asked) → Claim l
unfolding marks_set play step
counted [] way left k m q r s u e f w = absurd (true≢false (sym (runs_so way u.0 m.phase u.1) ∙ w.0))
counted (a ∷ l) way left k m q r s u e f w =
    let c = comes way (meaning m a) left k m u s.made w.0.1 in
    let x = facts way left k m s u in
    rw (seen m a s) (after l way left k (step m a).next _ q r (counted l) c (sound_kept m a s) x.0 x.1 e f (w.0.2, w.1))
