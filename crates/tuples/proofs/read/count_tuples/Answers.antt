-- What the step that was found says of the place and of the count.
use Rattle.std.proofs.Common.{◌≡◌, ℕ, ◌<◌, List, Ok, sym, ◌∙◌, ap, arith}
use Rattle.tuples.specs.Chain.{step_at, end_of}
use Rattle.tuples.specs.declared.Entry.{Entry}
use Rattle.tuples.specs.declared.chain.Step.{Step}
use Rattle.tuples.specs.declared.chain.Step.TheVariants.{Tuple}
use Rattle.tuples.proofs.Chains.{in_buffer, forward}
use Rattle.tuples.proofs.Counts.{added_after, added_by}
use Rattle.tuples.proofs.read.count_tuples.Goals as goal

-- a tuple's end is further on
behind : (s : List ℕ) (at : ℕ) (x : Step) (e : Entry) → Ok x ≡ step_at s at → x ≡ Tuple e → at < end_of e
behind s at x e p q = rw (sym p ∙ ap Ok q) at (forward s at)

pub overflow_add-count : goal.overflow_add-count
overflow_add-count c = omega (arith, in_buffer _ _ _ (sym c.in_ok-entry.ensures))

pub loop-entry-smaller-in-Tuple : goal.loop-entry-smaller-in-Tuple
loop-entry-smaller-in-Tuple c = omega (arith, in_buffer _ _ _ (sym c.in_ok-entry.ensures), behind _ _ _ _ c.in_ok-entry.ensures c.in-Tuple.is)

pub loop-entry-preserved-in-Tuple : goal.loop-entry-preserved-in-Tuple
loop-entry-preserved-in-Tuple c =
    let s = c.args.buffer.now in
    let l = c.loop-entry in
    record {
      few = omega (arith, behind _ _ _ _ c.in_ok-entry.ensures c.in-Tuple.is);
      sum = rw c.end-at.ensures (sym (added_by l.count s l.at ∙ ap (added_after l.count s l.at) (sym c.in_ok-entry.ensures ∙ ap Ok c.in-Tuple.is)) ∙ l.invariant.sum);
    }

pub overflow_add-at : goal.overflow_add-at
overflow_add-at c = omega (arith, in_buffer _ _ _ (sym c.in_ok-entry.ensures))

pub loop-entry-smaller : goal.loop-entry-smaller
loop-entry-smaller c = omega (arith, in_buffer _ _ _ (sym c.in_ok-entry.ensures))
