-- How often the interrupt mark is set by a command that moves sectors by a stride, at every moment and in all.
use Rattle.std.proofs.Common.{Ok, Err}
use Prim.Native.Nat.{ℕ, suc, ◌+◌, ◌-◌, ◌*◌, ◌/◌, ◌%◌, ◌<◌, ◌≤◌}
use mathlib.Core.Bool.{Bool, true, false, true≢false}
use mathlib.Core.Path.{◌≡◌, refl, sym, ap, ◌∙◌, subst}
use mathlib.Core.Logic.{◌⊎◌, inl, inr}
use mathlib.Core.List.{List, ◌∷◌}
use native.Mathlib.Nat.{suc-mul, mod-lt, div-add-mod'}
use native.Mathlib.Omega.{arith}
use lib.Arith.{digits_div, digits_mod}
use Rattle.ground.specs.Choice.{pick}
use Rattle.ground.proofs.Picks.{un_not, neither}
use Rattle.maps.specs.declared.Register.TheVariants.{StatusCommand}
use Rattle.registers.specs.declared.Pace.{Pace}
use Rattle.registers.specs.declared.State.{State}
use Rattle.registers.specs.Blocks.{pace_from}
use Rattle.registers.specs.State.{sreset_in}
use Rattle.registers.specs.Machine.{Machine, core_of, machine}
use Rattle.registers.specs.WellMade.{in_reset}
use Rattle.transfers.specs.declared.Order.TheVariants.{First}
use Rattle.transfers.specs.declared.Way.{Way}
use Rattle.transfers.specs.declared.Way.TheVariants.{In, Out}
use Rattle.transfers.specs.Steps.{read_tested, ask_tested}
use Rattle.commands.specs.Table.{command_of, command_given}
use Rattle.card.specs.declared.Meaning.{Meaning}
use Rattle.card.specs.declared.Meaning.TheVariants.{WriteRegister}
use Rattle.card.specs.Access.{Asked}
use Rattle.card.specs.Perform.{register_written, perform}
use Rattle.card.specs.Step.{step, play}
use Rattle.kept.specs.Sound.{Sound}
use Rattle.kept.proofs.Step.{sound_kept, sound-played}
use Rattle.laws.specs.Acts.{act_of}
use Rattle.laws.specs.Interrupt.{drq_set, sets, reads_row}
use Rattle.laws.proofs.InterruptData.{proper}
use Rattle.account.specs.Host.{asks, Goes}
use Rattle.blocks.specs.Alike.{Gives}
use Rattle.blocks.specs.Marks.{sets_mark, marks_set, EndsWell, full_blocks, part_moved, rounded_up}
use Rattle.blocks.proofs.Seen.{seen}
use Rattle.blocks.proofs.Turns.{Runs, FailsSo, end_sets}
use Rattle.blocks.proofs.Marks.{facts, one, ended, counted}
use Rattle.blocks.proofs.SoFar.{moved_on, not-ended}
use Rattle.transfers.specs.Before.{Tested}

-- a read sets the mark when its first sector is ready, a write not when its first one is asked for
abbrev pub begin_sets : Way → Bool
begin_sets In = true
begin_sets Out = false

first_or_last : (way : Way) → one (begin_sets way) + one (end_sets way) ≡ 1
first_or_last In = refl
first_or_last Out = refl

-- c sectors by blocks of a stride: the first block's mark, those of the blocks after it, and that of the end
from_first_lem : (way : Way) (c stride : ℕ) (n : Machine) (l : List Asked) → Sound n → Runs way c (pace_from stride) n.phase → EndsWell n l → one (begin_sets way) + marks_set n l ≡ rounded_up c stride
from_first_lem way c stride n l s u w =
    let f = facts way c (pace_from stride) n s u in
    let g = f.0 in
    let h = f.1 in
    let q = (c - 1) / stride in
    let r = (c - 1) % stride in
    let d = div-add-mod' (c - 1) stride in
    let z : r < stride = mod-lt (c - 1) (omega arith) in
    let x = counted l way c (pace_from stride) n q r s u (omega arith) z w in
    let y = first_or_last way in
    let t = suc-mul q stride in
    let e : c + stride - 1 ≡ suc q * stride + r = omega arith in
    let v : rounded_up c stride ≡ suc q = ap (λ (k : ℕ). k / stride) e ∙ digits_div (suc q) z in
    omega arith

-- ---- the command

-- it begins, or its first sector's tests fail
abbrev pub Begins : Way → ℕ → Pace → Machine → Type 0
Begins way c k n = (Runs way c k n.phase × (drq_set n.state ≡ true)) ⊎ FailsSo n.phase n.state

pub read_begins : (x : Tested) (c : ℕ) (k : Pace) (m : Machine) → proper x ≡ true → Begins In c k (read_tested x c k m)
read_begins (Ok spot) c k m p = inl ((_, refl, refl), refl)
read_begins (Err e) c k m p = inr (refl, un_not _ _ p)

pub ask_begins : (x : Tested) (c : ℕ) (k : Pace) (s : State) (b t m : List ℕ) → proper x ≡ true → Begins Out c k (machine (ask_tested x c k First s) b t m)
ask_begins (Ok spot) c k s b t m p = inl ((_, refl, refl), refl)
ask_begins (Err e) c k s b t m p = inr (refl, un_not _ _ p)

-- at a moment of it that still asks for data, after the Command write a and accesses l: `left` sectors are left, the one at hand among them, and c - left have
-- moved; these are full blocks, each begun with its mark but the first of a write, and a part of one
abbrev pub Moment : Way → Machine → Asked → List Asked → ℕ → ℕ → Type 0
Moment way m a l c stride =
    (left : ℕ) × (left ≤ c) × Runs way left (record { stride = stride; place = part_moved (c - left) stride }) (play (step m a).next l).last.phase
    × (marks_set m (a ∷ l) ≡ one (begin_sets way) + full_blocks (c - left) stride)

-- a Command write, in neither reset
written : (v : ℕ) (m : Machine) → m.state.control.held ≡ false → (perform (WriteRegister StatusCommand v) m).next ≡ command_given v m
unfolding perform register_written
written v m h = rw h

stepped : (v : ℕ) (m : Machine) (a : Asked) → Gives m a v → m.state.control.held ≡ false → (step m a).next ≡ command_given v m
unfolding step
stepped v m a g h = ap (λ (x : Meaning). (perform x m).next) g ∙ written v m h

-- the rule of a Command write after which data is asked for: by the table's row
command_sets : (way : Way) (v : ℕ) (m : Machine) (n : State) → reads_row (command_of v) ≡ begin_sets way → m.state.control.held ≡ false → drq_set n ≡ true →
    sets (act_of (WriteRegister StatusCommand v) (core_of m)) m.state n ≡ begin_sets way
unfolding sets
command_sets In v m n r h d = rw (h, d, r)
command_sets Out v m n r h d = rw (h, d, r)

-- a command that moves c sectors by a stride
module _ (way : Way) (m : Machine) (a : Asked) (v c stride : ℕ) (s : Sound m) (f : in_reset m.state ≡ false) (g : Gives m a v) (r : reads_row (command_of v) ≡ begin_sets way)
    (b : Begins way c (pace_from stride) (command_given v m)) where
  abbrev given_card : Machine
  given_card = (step m a).next

  free : m.state.control.held ≡ false
  unfolding in_reset
  free = (neither (sreset_in m.state.option) m.state.control.held f).1

  begun : Begins way c (pace_from stride) given_card
  begun = subst (Begins way c (pace_from stride)) (sym (stepped v m a g free)) b

  first_seen : drq_set given_card.state ≡ true → sets_mark m a ≡ begin_sets way
  first_seen d = seen m a s ∙ ap (λ (x : Meaning). sets (act_of x (core_of m)) m.state given_card.state) g ∙ command_sets way v m given_card.state r free d

  pub whole-marks : (l : List Asked) → EndsWell given_card l → marks_set m (a ∷ l) ≡ rounded_up c stride
  unfolding marks_set
  whole-marks l w = go begun
    where
      go : Begins way c (pace_from stride) given_card → pick (sets_mark m a) 1 0 + marks_set given_card l ≡ rounded_up c stride
      go (inl x) = rw (first_seen x.1) (from_first_lem way c stride given_card l (sound_kept m a s) x.0 w)
      go (inr x) = absurd (true≢false (sym (ended l given_card x.0 w).1 ∙ x.1))

  pub moment_marks : (l : List Asked) → Goes given_card l → asks (play given_card l).last ≡ true → Moment way m a l c stride
  unfolding marks_set
  moment_marks l w e = go begun
    where
      go : Begins way c (pace_from stride) given_card → Moment way m a l c stride
      go (inl x) =
          let n = (play given_card l).last in
          let o = moved_on l way c (pace_from stride) given_card (sound_kept m a s) x.0 w e in
          let p = (facts way o.still (record { stride = stride; place = o.place }) n (sound-played l given_card (sound_kept m a s)) o.runs).1 in
          let q = o.blocks in
          let h : c - o.still ≡ marks_set given_card l * stride + o.place = omega arith in
          let u : (c - o.still) % stride ≡ o.place = ap (λ (y : ℕ). y % stride) h ∙ digits_mod (marks_set given_card l) p in
          let z : (c - o.still) / stride ≡ marks_set given_card l = ap (λ (y : ℕ). y / stride) h ∙ digits_div (marks_set given_card l) p in
          (o.still, o.fewer, rw u o.runs, rw (first_seen x.1, z) refl)
      go (inr x) = not-ended l given_card x.0 w e
