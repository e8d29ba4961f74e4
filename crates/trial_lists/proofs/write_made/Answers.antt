-- The first n places of the array are the list that was asked for.
use Rattle.std.proofs.Common.{◌≡◌, List, ℕ, ◌∙◌, ap, subst, arith, replicate, set, take, length, ◌-◌}
use Rattle.tuples.specs.Write.{Writes}
use Rattle.tuples.specs.declared.Entry.{Entry}
use Rattle.trial_lists.specs.Lists.{counted_as, made}
use Rattle.trial_lists.proofs.Lists.{made_is}
use Rattle.trial_lists.proofs.write_made.Goals as goal

pub returns : goal.returns
returns c =
    let a = c.args in
    let those : c.set_last.new.list ≡ made (counted_as a.count) a.first a.last =
    c.set_last.ensures ∙ ap (λ (n : ℕ). set (take n (replicate 256 a.first)) (length (take n (replicate 256 a.first)) - 1) a.last) c.min.ensures ∙ made_is (counted_as a.count) a.first a.last (omega arith) in
    subst (λ (l : List Entry). Writes a.bodies.now l a.out.now c.write_tuples.result c.write_tuples.new.out) those c.write_tuples.ensures.writes
