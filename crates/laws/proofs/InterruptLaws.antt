-- The rule for the interrupt mark in its three cases: left, cleared, set.
use Prim.Native.Nat.{ℕ}
use mathlib.Core.Path.{◌≡◌, refl, sym, ap}
use mathlib.Core.Bool.{Bool, true, false, not, ◌&&◌, ◌||◌, and-true, and-false}
use lib.Dec.{eqb}
use borrow.Author.Tests.{eq-eqb}
use Rattle.ground.specs.Choice.{pick}
use Rattle.registers.specs.declared.State.{State}
use Rattle.laws.specs.Bits.{status_idle, status_data}
use Rattle.commands.specs.declared.Command.{Command}
use Rattle.transfers.specs.declared.Way.{Way}
use Rattle.transfers.specs.declared.Way.TheVariants.{In, Out}
use Rattle.laws.specs.Interrupt.{drq_set, another, reads_row, sets, clears, InterruptRule}
use Rattle.laws.specs.Acts.{Act, CommandWrite, DataRead, DataWrite, NoMatter}

left : (a b s c : Bool) → s ≡ false → c ≡ false → a ≡ b → a ≡ (s || (b && not c))
left a b s c p q r = rw (p, q, and-true b) r

gone : (a b s c : Bool) → s ≡ false → c ≡ true → a ≡ false → a ≡ (s || (b && not c))
gone a b s c p q r = rw (p, q, and-false b) r

up : (a b s c : Bool) → s ≡ true → a ≡ true → a ≡ (s || (b && not c))
up a b s c p r = rw p r

interrupt_left : (x : Act) (s n : State) → sets x s n ≡ false → clears x s ≡ false → n.interrupt ≡ s.interrupt → InterruptRule x s n
interrupt_left x s n p q r = left n.interrupt s.interrupt (sets x s n) (clears x s) p q r

pub interrupt_gone : (x : Act) (s n : State) → sets x s n ≡ false → clears x s ≡ true → n.interrupt ≡ false → InterruptRule x s n
interrupt_gone x s n p q r = gone n.interrupt s.interrupt (sets x s n) (clears x s) p q r

interrupt_up : (x : Act) (s n : State) → sets x s n ≡ true → n.interrupt ≡ true → InterruptRule x s n
interrupt_up x s n p r = up n.interrupt s.interrupt (sets x s n) (clears x s) p r

-- an access that does not matter
pub no_matter : (s n : State) → n.interrupt ≡ s.interrupt → InterruptRule NoMatter s n
unfolding sets clears
no_matter s n e = interrupt_left NoMatter s n refl refl e

-- ---- a Command write

-- the command is over
pub over : (c : Command) (s n : State) → n.interrupt ≡ true → drq_set n ≡ false → InterruptRule (CommandWrite c) s n
unfolding sets
over c s n m e = interrupt_up (CommandWrite c) s n (rw e) m

-- a sector or the buffer is ready
pub ready : (c : Command) (s n : State) → reads_row c ≡ true → n.interrupt ≡ true → drq_set n ≡ true → InterruptRule (CommandWrite c) s n
unfolding sets
ready c s n r m e = interrupt_up (CommandWrite c) s n (rw (e, r)) m

-- the first sector or the buffer is asked for
pub asked : (c : Command) (s n : State) → reads_row c ≡ false → n.interrupt ≡ false → drq_set n ≡ true → InterruptRule (CommandWrite c) s n
unfolding sets clears
asked c s n r m e = interrupt_gone (CommandWrite c) s n (rw (e, r)) refl m

-- ---- a data access

same_count : (a b : ℕ) → a ≡ b → not (eqb a b) ≡ false
same_count a b e = ap not (eq-eqb a b e)

abbrev pub data_act : Way → Bool → Act
data_act In last = DataRead last
data_act Out last = DataWrite last

no_turn : (a b d last : Bool) → d ≡ false → (a && (b && (d && last))) ≡ false
no_turn true true d last e = rw e refl
no_turn true false d last e = refl
no_turn false b d last e = refl

no_end : (a b : Bool) → b ≡ a → (a && not b) ≡ false
no_end true b e = ap not e
no_end false b e = refl

-- nothing that a host sees has changed
pub nothing_sets : (w : Way) (last : Bool) (s n : State) → n.registers.status ≡ s.registers.status → n.registers.count ≡ s.registers.count → sets (data_act w last) s n ≡ false
unfolding sets
nothing_sets In last s n p q =
    rw (no_turn (drq_set s) (drq_set n) (another s n) last (same_count _ _ (sym q)), no_end (drq_set s) (drq_set n) (ap (λ (x : ℕ). eqb x status_data) p))
nothing_sets Out last s n p q =
    rw (no_turn (drq_set s) (drq_set n) (another s n) last (same_count _ _ (sym q)), no_end (drq_set s) (drq_set n) (ap (λ (x : ℕ). eqb x status_data) p))

no_clear : (w : Way) (last : Bool) (s : State) → clears (data_act w last) s ≡ false
unfolding clears
no_clear In last s = refl
no_clear Out last s = refl

pub still : (w : Way) (last : Bool) (s n : State) → n.registers.status ≡ s.registers.status → n.registers.count ≡ s.registers.count → n.interrupt ≡ s.interrupt → InterruptRule (data_act w last) s n
still w last s n p q r = interrupt_left (data_act w last) s n (nothing_sets w last s n p q) (no_clear w last s) r

-- the next sector is ready, or asked for: the first of its block, or another one
pub turn_sets : (w : Way) (last : Bool) (s n : State) → drq_set s ≡ true → drq_set n ≡ true → another s n ≡ true → sets (data_act w last) s n ≡ last
unfolding sets
turn_sets In true s n p q r = rw (p, q, r)
turn_sets In false s n p q r = rw (p, q, r)
turn_sets Out true s n p q r = rw (p, q, r)
turn_sets Out false s n p q r = rw (p, q, r)

pub turned : (w : Way) (last : Bool) (s n : State) → drq_set s ≡ true → drq_set n ≡ true → another s n ≡ true → n.interrupt ≡ pick last true s.interrupt → InterruptRule (data_act w last) s n
turned w true s n p q r m = interrupt_up (data_act w true) s n (turn_sets w true s n p q r) m
turned w false s n p q r m = interrupt_left (data_act w false) s n (turn_sets w false s n p q r) (no_clear w false s) m

-- writing ends, well or in error
pub end_sets_lem : (last : Bool) (s n : State) → drq_set s ≡ true → drq_set n ≡ false → sets (DataWrite last) s n ≡ true
unfolding sets
end_sets_lem last s n p q = rw (p, q)

pub written_end : (last : Bool) (s n : State) → drq_set s ≡ true → drq_set n ≡ false → n.interrupt ≡ true → InterruptRule (DataWrite last) s n
written_end last s n p q m = interrupt_up (DataWrite last) s n (end_sets_lem last s n p q) m

-- reading ends in error, or well
pub read_failed : (last : Bool) (s n : State) → drq_set s ≡ true → drq_set n ≡ false → eqb n.registers.status status_idle ≡ false → n.interrupt ≡ true → InterruptRule (DataRead last) s n
unfolding sets
read_failed last s n p q r m = interrupt_up (DataRead last) s n (rw (p, q, r)) m

pub well_sets : (last : Bool) (s n : State) → drq_set s ≡ true → drq_set n ≡ false → eqb n.registers.status status_idle ≡ true → sets (DataRead last) s n ≡ false
unfolding sets
well_sets last s n p q r = rw (p, q, r)

pub read_well : (last : Bool) (s n : State) → drq_set s ≡ true → drq_set n ≡ false → eqb n.registers.status status_idle ≡ true → n.interrupt ≡ s.interrupt → InterruptRule (DataRead last) s n
read_well last s n p q r m = interrupt_left (DataRead last) s n (well_sets last s n p q r) (no_clear In last s) m
