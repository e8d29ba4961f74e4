-- A refusal leaves the list, and a chain that is whole has as many tuples as the list has places, or fewer.
use Rattle.std.proofs.Common.{◌≡◌, ◌≤◌, ◌++◌, take, drop, ℕ, List, length, length-take-le, sym, ap, ◌∙◌, arith, Ok, Err}
use Rattle.std.proofs.lemmas.Result.{err_from_is_err_and}
use lib.Seq.{take_all}
use borrow.Author.Tests.{eq-eqb, le-leb}
use Rattle.ground.proofs.Tests.{tests}
use Rattle.answers.proofs.Outcomes.{says}
use Rattle.answers.specs.declared.Refusal.{Refusal}
use Rattle.tuples.specs.Chain.{chain_at}
use Rattle.tuples.specs.Read.{counted, filled, read_outcome, unless_refused, Reads}
use Rattle.tuples.specs.declared.Entry.{Entry}
use Rattle.tuples.proofs.Filling.{all}
use Rattle.tuples.proofs.Bounds.{read_well}
use Rattle.tuples.proofs.read.read_tuples.Goals as goal

refused_read : (s : List ℕ) (ls : List Entry) (x : Refusal) → read_outcome s (length ls) ≡ Err x → Reads s ls (Err x) ls
refused_read s ls x e = (sym e, ap (λ o. unless_refused o (filled (all s) ls) ls) (sym e), says _ _ (sym e))

accepted_read : (s : List ℕ) (ls zs : List Entry) (n : ℕ) → read_outcome s (length ls) ≡ Ok n → zs ≡ filled (all s) ls → Reads s ls (Ok n) zs
accepted_read s ls zs n e f = (sym e, f ∙ ap (λ o. unless_refused o (filled (all s) ls) ls) (sym e), says _ _ (sym e))

surveyed : (s : List ℕ) (places : ℕ) → length s ≡ 256 → 127 ≤ places → read_outcome s places ≡ counted (chain_at s 0)
unfolding read_outcome counted
surveyed s places h l = simp (eq-eqb _ _ h, le-leb _ _ l)

pub returns-in_default : goal.returns-in_default
unfolding read_outcome
returns-in_default c = let h = c.in_default.ensures.1 in search tests

pub returns-then-list-lt-LIST_PLACES : goal.returns-then-list-lt-LIST_PLACES
unfolding read_outcome
returns-then-list-lt-LIST_PLACES c = search tests

pub returns-in_err-count : goal.returns-in_err-count
returns-in_err-count c =
    let s = c.args.buffer.now in
    let ls = c.args.list.now in
    let h = c.in-Ok.ensures.1 in
    let p = err_from_is_err_and c.from_residual.result c.from_residual.ensures.1 in
    rw (p.1, p.2) (refused_read s ls _ (surveyed s (length ls) h.long c.if-list-lt-LIST_PLACES.false ∙ ap (λ (b : List ℕ). counted (chain_at b 0)) (sym h.same) ∙ sym c.in_err-count.ensures))

-- what an accepted survey says: the reader accepts, and the count is that of the tuples and no more than the list has places
record Surveyed (s : List ℕ) (places n : ℕ) : Type 0 where
  answer : read_outcome s places ≡ Ok n
  count : n ≡ length (all s)
  fits : n ≤ places

well_surveyed : (s b : List ℕ) (places n m : ℕ) → length s ≡ 256 → b ≡ s → 127 ≤ places → Ok n ≡ counted (chain_at b 0) → m ≡ n → Surveyed s places m
well_surveyed s b places n m h same l e f =
    let answer : read_outcome s places ≡ Ok m = surveyed s places h l ∙ ap (λ (b : List ℕ). counted (chain_at b 0)) (sym same) ∙ sym e ∙ ap Ok (sym f) in
    let ok = read_well s places m answer in
    record { answer = answer; count = ok.count; fits = ok.fits }

pub slice_bounds-fill-end : goal.slice_bounds-fill-end
slice_bounds-fill-end c =
    let h = c.in-Ok.ensures.1 in
    (well_surveyed c.args.buffer.now _ (length c.args.list.now) _ _ h.long h.same c.if-list-lt-LIST_PLACES.false c.in_ok-count.ensures c.from.ensures).fits

pub slice_bounds-fill-end-2 : goal.slice_bounds-fill-end-2
slice_bounds-fill-end-2 c =
    let h = c.in-Ok.ensures.1 in
    let w = well_surveyed c.args.buffer.now _ (length c.args.list.now) _ _ h.long h.same c.if-list-lt-LIST_PLACES.false c.in_ok-count.ensures c.from.ensures in
    sym (length-take-le c.from.result c.args.list.now w.fits)

pub fill-requires : goal.fill-requires
fill-requires c =
    let h = c.in-Ok.ensures.1 in
    let w = well_surveyed c.args.buffer.now _ (length c.args.list.now) _ _ h.long h.same c.if-list-lt-LIST_PLACES.false c.in_ok-count.ensures c.from.ensures in
    rw (length-take-le c.from.result c.args.list.now w.fits, h.same) (omega (arith, w.count))

pub returns : goal.returns
returns c =
    let h = c.in-Ok.ensures.1 in
    let s = c.args.buffer.now in
    let ls = c.args.list.now in
    let w = well_surveyed s _ (length ls) _ _ h.long h.same c.if-list-lt-LIST_PLACES.false c.in_ok-count.ensures c.from.ensures in
    let e : c.fill.new.list ≡ all s = c.fill.ensures ∙ ap (λ (b : List ℕ). take (length (take c.from.result ls)) (all b)) h.same ∙ take_all _ (all s) (omega (arith, w.count, length-take-le c.from.result ls w.fits)) in
    let f : c.fill.new.list ++ drop c.from.result ls ≡ filled (all s) ls = ap (λ (l : List Entry). l ++ drop c.from.result ls) e ∙ ap (λ (n : ℕ). all s ++ drop n ls) w.count in
    accepted_read s ls _ _ (w.answer ∙ ap Ok c.from.ensures) f
