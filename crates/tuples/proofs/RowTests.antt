-- The reader's and the writer's own tests say what 01's words say.
--     end_reached         row 13: a chain that the reader finds whole is one that comes to its end mark
--     bad_is          row 15, of the whole list
--     taken_is        row 14, where no tuple is bad
use Rattle.std.specs.Prelude.{Result}
use Prim.Native.Nat.{ℕ, zero, suc, ◌+◌, ◌≤◌}
use mathlib.Core.Path.{◌≡◌, refl, sym, ap, ◌∙◌}
use mathlib.Core.Bool.{Bool, true, false, not, ◌||◌}
use mathlib.Core.List.{List, [], ◌∷◌}
use native.Mathlib.Omega.{arith}
use lib.ListN.{length, get_or, length-append}
use lib.Dec.{eqb, leb, ltb}
use borrow.Author.Tests.{leb-true, leb-false, lt-ltb, le-ltb}
use Rattle.ground.proofs.Below.{below}
use Rattle.ground.specs.Choice.{pick, every}
use Rattle.ground.proofs.Picks.{pick_of, both_of}
use Rattle.tuples.specs.Chain.{Chain, step_at, chain_at}
use Rattle.tuples.specs.Write.{good, all_good, tuple_bytes, body_of}
use Rattle.tuples.specs.Rows.{reaches_end, bad, any_bad, bytes_taken}
use Rattle.tuples.specs.declared.Entry.{Entry}
use Rattle.answers.specs.declared.Refusal.{Refusal}
use Rattle.tuples.specs.declared.chain.Step.{Step}
use Rattle.tuples.proofs.Chains.{chain-step, past, after}
use Rattle.tuples.proofs.Goods.{is_good, long_body}

-- ---- row 13
-- a body that does not fit leads past the buffer
by_fit : (s : List ℕ) (next : ℕ) (t : Bool) → leb next (length s) ≡ t → pick t (chain_at s next).ended false ≡ (chain_at s next).ended
by_fit s next true e = refl
by_fit s next false e = sym (ap (λ (c : Chain). c.ended) (past s next (omega (arith, leb-false next (length s) e))))

-- whether the chain from a place on has its end mark, by what stands there
ended_at : (s : List ℕ) (at : ℕ) → let n = at + 2 + get_or s (at + 1) 0 in
    (chain_at s at).ended
    ≡ pick (ltb at (length s)) (pick (eqb (get_or s at 0) 255) true (pick (eqb (get_or s at 0) 0) (chain_at s (at + 1)).ended (pick (leb n (length s)) (chain_at s n).ended false))) false
unfolding step_at
ended_at s at = ap (λ (c : Chain). c.ended) (chain-step s at) ∙ simp (pick_of (λ (x : Result Step Refusal). (after s at x).ended))

in_bytes : (at : ℕ) (t : Bool) → leb at 255 ≡ t → ltb at 256 ≡ t
in_bytes at true e = lt-ltb at 256 (omega (arith, leb-true at 255 e))
in_bytes at false e = le-ltb at 256 (leb-false at 255 e)

walked : (n : ℕ) (s : List ℕ) (at : ℕ) → length s ≡ 256 → 256 ≤ at + n → (chain_at s at).ended ≡ reaches_end n s at
unfolding reaches_end
walked zero s at h m = ap (λ (c : Chain). c.ended) (past s at (omega arith))
walked (suc n) s at h m =
    let next = at + 2 + get_or s (at + 1) 0 in
    ended_at s at
    ∙ rw (by_fit s next (leb next (length s)) refl, walked n s (at + 1) h (omega arith), walked n s next h (omega arith), h, in_bytes at (leb at 255) refl)

pub end_reached : (s : List ℕ) → length s ≡ 256 → (chain_at s 0).ended ≡ reaches_end 256 s 0
end_reached s h = walked 256 s 0 h (omega arith)

-- ---- row 15
bad_by : (a b c : Bool) → pick a false (pick b false c) ≡ not (a || b || not c)
bad_by true b c = refl
bad_by false true c = refl
bad_by false false true = refl
bad_by false false false = refl

good_is : (bs : List ℕ) (e : Entry) → good bs e ≡ not (bad bs e)
unfolding good
good_is bs e = rw (below (e.start + e.length) (length bs)) (bad_by (eqb e.code 0) (eqb e.code 255) _)

any_by : (b c : Bool) → pick (not b) (not c) false ≡ not (b || c)
any_by true c = refl
any_by false c = refl

pub bad_is : (bs : List ℕ) (es : List Entry) → all_good bs es ≡ not (any_bad bs es)
unfolding all_good any_bad every
bad_is bs [] = refl
bad_is bs (e ∷ es) = rw (good_is bs e, bad_is bs es) (any_by (bad bs e) (any_bad bs es))

-- ---- row 14
pub taken_is : (bs : List ℕ) (es : List Entry) → all_good bs es ≡ true → length (tuple_bytes bs es) ≡ bytes_taken es
unfolding all_good tuple_bytes bytes_taken every
taken_is bs [] g = refl
taken_is bs (e ∷ es) g =
    let gs = both_of (good bs e) (all_good bs es) g in
    omega (arith, length-append (body_of bs e) (tuple_bytes bs es), long_body bs e (is_good bs e gs.0), taken_is bs es gs.1)
