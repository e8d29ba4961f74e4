-- An accepted reading counts the entries of the chain, which are the first of the array, and the writer writes those.
use Rattle.std.proofs.Common.{◌≡◌, ◌≤◌, ℕ, List, refl, length, length-take-le, sym, ◌∙◌, ap, subst, arith, Ok}
use Rattle.std.proofs.Math.ListN.{take, replicate, length-replicate}
use Rattle.tuples.specs.Chain.{no_entry}
use Rattle.tuples.specs.Read.{Reads, read_outcome}
use Rattle.tuples.specs.Write.{Writes}
use Rattle.tuples.specs.declared.Entry.{Entry}
use Rattle.tuples.proofs.Filling.{all}
use Rattle.tuples.proofs.Bounds.{read_well, entries_first}
use Rattle.trial_lists.proofs.Lists.{back-written}
use Rattle.trial_lists.proofs.write_back.Goals as goal

-- the answer counts no more entries than the list has
in_list : (s : List ℕ) (ls zs : List Entry) (n m : ℕ) → Reads s ls (Ok n) zs → length zs ≡ length ls → m ≡ n → m ≤ length zs
in_list s ls zs n m e long em = omega (arith, (read_well s (length ls) n (sym e.0)).fits)

pub slice_bounds-list-end : goal.slice_bounds-list-end
slice_bounds-list-end c = in_list c.args.buffer.now (replicate 127 no_entry) _ _ _ c.in_ok-n.ensures c.read_tuples.auto.list c.from.ensures

pub slice_bounds-write_tuples-end : goal.slice_bounds-write_tuples-end
slice_bounds-write_tuples-end c =
    sym (length-take-le c.from.result c.read_tuples.new.list (in_list c.args.buffer.now (replicate 127 no_entry) _ _ _ c.in_ok-n.ensures c.read_tuples.auto.list c.from.ensures))

pub returns : goal.returns
returns c =
    let s = c.args.buffer.now in
    let os = c.args.out.now in
    let ls : List Entry = replicate 127 no_entry in
    let zs : List Entry = c.read_tuples.new.list in
    let e : Reads s ls (Ok c.in_ok-n.n) zs = c.in_ok-n.ensures in
    let those : take c.from.result zs ≡ all s = ap (λ (j : ℕ). take j zs) c.from.ensures ∙ entries_first s ls _ zs e c.in_ok-n.n refl in
    back-written s os _ c.write_tuples.result c.write_tuples.new.out (e.0 ∙ ap (read_outcome s) (length-replicate 127 no_entry)) refl
    (subst (λ (es : List Entry). Writes s es os c.write_tuples.result c.write_tuples.new.out) those c.write_tuples.ensures.writes)
