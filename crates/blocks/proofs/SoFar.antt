-- How often the interrupt mark has been set at any moment of a transfer of sectors that still runs, and where the sector at hand stands in its block.
use Prim.Native.Nat.{ℕ, ◌+◌, ◌-◌, ◌*◌, ◌≤◌, ◌<◌}
use mathlib.Core.Bool.{Bool, true, false, true≢false}
use mathlib.Core.Path.{◌≡◌, refl, sym, ◌∙◌}
use mathlib.Core.Logic.{inl, inr}
use mathlib.Core.List.{List, [], ◌∷◌}
use native.Mathlib.Nat.{suc-mul}
use native.Mathlib.Omega.{arith}
use lib.Dec.{eqb}
use borrow.Author.Tests.{eqb-true, eqb-false}
use Rattle.registers.specs.declared.Pace.{Pace}
use Rattle.registers.specs.declared.Phase.TheVariants.{Idle}
use Rattle.registers.specs.Blocks.{pace_after}
use Rattle.registers.specs.Machine.{Machine}
use Rattle.transfers.specs.declared.Way.{Way}
use Rattle.card.specs.Access.{Asked, meaning}
use Rattle.card.specs.Step.{step, play}
use Rattle.kept.specs.Sound.{Sound}
use Rattle.kept.proofs.Step.{sound_kept}
use Rattle.account.specs.Host.{asks, Goes}
use Rattle.blocks.specs.Marks.{marks_set}
use Rattle.blocks.proofs.Seen.{seen}
use Rattle.blocks.proofs.Turns.{Runs, Comes}
use Rattle.blocks.proofs.Comes.{comes}
use Rattle.blocks.proofs.Marks.{facts, place_zero, place_more, one, idle-asks}

-- the transfer that has come of one with `left` sectors left at the pace k, with so many marks set on the way: as many sectors as have moved since, and the
-- place that it had, are whole blocks, one for each mark, and the place that it has
pub record On (way : Way) (left : ℕ) (k : Pace) (n : Machine) (marks : ℕ) : Type 0 where
  pub still : ℕ
  pub place : ℕ
  pub fewer : still ≤ left
  pub runs : Runs way still (record { stride = k.stride; place = place }) n.phase
  pub blocks : k.place + (left - still) ≡ marks * k.stride + place

-- what is claimed of accesses that are made while the card asks, none of them a command or a reset, where it still asks after them
abbrev Claim : List Asked → Type 0
Claim l = (way : Way) (left : ℕ) (k : Pace) (m : Machine) → Sound m → Runs way left k m.phase → Goes m l → asks (play m l).last ≡ true → On way left k (play m l).last (marks_set m l)

pub not-ended : (l : List Asked) (n : Machine) {A : Type 0} → n.phase ≡ Idle → Goes n l → asks (play n l).last ≡ true → A
unfolding play
not-ended [] n e g a = absurd (true≢false (sym a ∙ idle-asks n e))
not-ended (x ∷ l) n e g a = absurd (true≢false (sym g.0 ∙ idle-asks n e))

-- a sector more, which was the last of its block or was not
turn_up : (way : Way) (left stride place : ℕ) (n : Machine) (marks : ℕ) → 1 ≤ left → place < stride → eqb (left - 1) 0 ≡ false → (b : Bool) → eqb (place + 1) stride ≡ b →
    On way (left - 1) (pace_after (record { stride = stride; place = place })) n marks → On way left (record { stride = stride; place = place }) n (one b + marks)
turn_up way left stride place n marks g p z true v o =
    let x = eqb-true (place + 1) stride v in
    let y = eqb-false (left - 1) 0 z in
    let i = place_zero stride place p v in
    let f = o.fewer in
    let c = o.blocks in
    let t = suc-mul marks stride in
    record { still = o.still; place = o.place; fewer = omega arith; runs = o.runs; blocks = omega arith }
turn_up way left stride place n marks g p z false v o =
    let y = eqb-false (left - 1) 0 z in
    let i = place_more stride place p v in
    let f = o.fewer in
    let c = o.blocks in
    record { still = o.still; place = o.place; fewer = omega arith; runs = o.runs; blocks = omega arith }

after : (l : List Asked) (way : Way) (left : ℕ) (k : Pace) (n : Machine) (b : Bool) → Claim l → Comes way left k n b → Sound n → 1 ≤ left → k.place < k.stride → Goes n l →
    asks (play n l).last ≡ true → On way left k (play n l).last (one b + marks_set n l)
after l way left k n b h (inl (inl x)) s g p w a =
    rw x.1 (let o = h way left k n s x.0 w a in let c = o.blocks in record { still = o.still; place = o.place; fewer = o.fewer; runs = o.runs; blocks = omega arith })
after l way left k n b h (inl (inr x)) s g p w a =
    rw x.2 (turn_up way left k.stride k.place (play n l).last (marks_set n l) g p x.1 _ refl (h way (left - 1) (pace_after k) n s x.0 w a))
after l way left k n b h (inr (inl x)) s g p w a = not-ended l n x.0 w a
after l way left k n b h (inr (inr x)) s g p w a = not-ended l n x.0 w a

pub moved_on : (l : List Asked) → Claim l
unfolding marks_set play step
moved_on [] way left k m s u g a = record { still = left; place = k.place; fewer = omega arith; runs = u; blocks = omega arith }
moved_on (a ∷ l) way left k m s u g e =
    let c = comes way (meaning m a) left k m u s.made g.1 in
    let x = facts way left k m s u in
    rw (seen m a s) (after l way left k (step m a).next _ (moved_on l) c (sound_kept m a s) x.0 x.1 g.2 e)
