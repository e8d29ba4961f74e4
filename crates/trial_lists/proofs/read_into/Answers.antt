-- The first n places of an array of 256 that all held one entry are read into; the place that is handed out is one of the array's.
use Rattle.std.proofs.Common.{◌≡◌, ◌<◌, ◌≤◌, ◌++◌, ℕ, List, length, drop, get_or, refl, ap, ◌∙◌, arith, length-append}
use Rattle.std.proofs.Math.ListN.{take, replicate, length-replicate, take-append-drop}
use Rattle.std.proofs.lemmas.List.{get_or_default}
use Rattle.answers.proofs.Outcomes.{says as outcomes-say}
use Rattle.tuples.specs.Chain.{no_entry}
use Rattle.tuples.specs.Read.{Reads}
use Rattle.tuples.specs.declared.Entry.{Entry}
use Rattle.trial_lists.specs.Lists.{handed_after}
use Rattle.trial_lists.proofs.Lists.{handed_entry, handed_outcome}
use Rattle.trial_lists.proofs.read_into.Goals as goal

-- the part that was read into and the rest are as long as the array was
in_array : (ls zs : List Entry) (n p : ℕ) → length ls ≡ 256 → p ≤ 255 → length zs ≡ length (take n ls) → p < length (zs ++ drop n ls)
in_array ls zs n p long most part = omega (arith, length-append zs (drop n ls), length-append (take n ls) (drop n ls), ap length (take-append-drop n ls))

pub returns : goal.returns
returns c =
    let a = c.args in
    let s = a.buffer.now in
    let x = a.before in
    let n = c.min-n.result in
    let p = c.min.result in
    let ls : List Entry = replicate 256 x in
    let zs : List Entry = c.read_tuples-outcome.new.list in
    let e : Reads s (take n ls) c.read_tuples-outcome.result zs = c.read_tuples-outcome.ensures in
    let o = handed_outcome s a.places a.number n p x ls zs c.min-n.ensures (omega arith) refl c.read_tuples-outcome.result e.0 in
    let inside : p < length (zs ++ drop n ls) = in_array ls zs n p (length-replicate 256 x) (omega arith) c.read_tuples-outcome.auto.list in
    let y : get_or (zs ++ drop n ls) p no_entry ≡ (handed_after s a.places x a.number).entry =
    get_or_default (zs ++ drop n ls) p no_entry x inside ∙ handed_entry s a.places a.number n p x ls zs c.min-n.ensures (omega arith) refl c.min.ensures e.1 in
    ((λ j. record { outcome = o j; entry = y j }), outcomes-say _ _ o)
