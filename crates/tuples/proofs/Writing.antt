-- The bytes of a list's tuples, as the writer's loop puts them one after the other, and its two tests of the list.
--     all_is          all tuples may be written
--     taken_by        what they take, as far as a number of the code goes
--     turn            one tuple more, where all may be written: its body lies inside, it has room, and its bytes come after those of the tuples before it
use mathlib.Core.Path.{◌≡◌, refl, sym, ◌∙◌, ap}
use mathlib.Core.Bool.{Bool, true, false, ◌&&◌}
use mathlib.Core.List.{List, ◌∷◌, ◌++◌, append_assoc, append-nil, []}
use Prim.Native.Nat.{ℕ, zero, suc, ◌+◌, ◌-◌, ◌^◌, ◌<◌, ◌≤◌, min}
use native.Mathlib.Omega.{arith}
use native.Mathlib.Numerals.{add-one}
use lib.ListN.{length, get_or, take, drop, length-append, take-append-drop}
use lib.Seq.{take-suc}
use Rattle.std.specs.List.{list_all, fold}
use Rattle.ground.specs.Choice.{pick, every}
use Rattle.ground.proofs.Picks.{both_of}
use Rattle.tuples.specs.Chain.{no_entry}
use Rattle.tuples.specs.Rows.{bytes_taken}
use Rattle.tuples.specs.Write.{good, body_of, tuple_bytes, all_good}
use Rattle.tuples.specs.declared.Entry.{Entry}
use Rattle.tuples.proofs.Goods.{Good, is_good, long_body}

and_pick : (a b : Bool) → (a && b) ≡ pick a b false
and_pick true b = refl
and_pick false b = refl

pub all_is : (bs : List ℕ) (es : List Entry) → list_all (good bs) es ≡ all_good bs es
unfolding all_good every
all_is bs [] = refl
all_is bs (e ∷ es) = and_pick (good bs e) (list_all (good bs) es) ∙ ap (λ (b : Bool). pick (good bs e) b false) (all_is bs es)

pub taken_by : (es : List Entry) (a : ℕ) → a ≤ 2 ^ 64 - 1 → fold (λ (n : ℕ) (e : Entry). min (n + (2 + e.length)) (2 ^ 64 - 1)) a es ≡ min (a + bytes_taken es) (2 ^ 64 - 1)
unfolding bytes_taken
taken_by [] a h = omega arith
taken_by (e ∷ es) a h = taken_by es (min (a + (2 + e.length)) (2 ^ 64 - 1)) (omega arith) ∙ omega arith

pub taken_all : (es : List Entry) → fold (λ (n : ℕ) (e : Entry). min (n + (2 + e.length)) (2 ^ 64 - 1)) 0 es ≡ min (bytes_taken es) (2 ^ 64 - 1)
taken_all es = taken_by es 0 (omega arith) ∙ omega arith

-- ---- one tuple more
abbrev pub tuple_of : List ℕ → Entry → List ℕ
tuple_of bs e = e.code ∷ (e.length ∷ body_of bs e)

joined : (bs : List ℕ) (es fs : List Entry) → tuple_bytes bs (es ++ fs) ≡ tuple_bytes bs es ++ tuple_bytes bs fs
unfolding tuple_bytes
joined bs [] fs = refl
joined bs (e ∷ es) fs = ap (λ (l : List ℕ). tuple_of bs e ++ l) (joined bs es fs) ∙ sym (append_assoc (tuple_of bs e) (tuple_bytes bs es) (tuple_bytes bs fs))

one_more : (bs : List ℕ) (es : List Entry) (k : ℕ) → k < length es → tuple_bytes bs (take (k + 1) es) ≡ tuple_bytes bs (take k es) ++ tuple_of bs (get_or es k no_entry)
unfolding tuple_bytes
one_more bs es k h =
    ap (λ (j : ℕ). tuple_bytes bs (take j es)) (add-one k) ∙ ap (tuple_bytes bs) (take-suc es k no_entry h) ∙ joined bs (take k es) (get_or es k no_entry ∷ [])
    ∙ ap (λ (l : List ℕ). tuple_bytes bs (take k es) ++ l) (append-nil (tuple_of bs (get_or es k no_entry)))

good_at : (bs : List ℕ) (es : List Entry) (k : ℕ) → all_good bs es ≡ true → k < length es → Good bs (get_or es k no_entry)
unfolding all_good every
good_at bs [] k g h = let z : ⊥ = omega arith in absurd z
good_at bs (e ∷ es) zero g h = is_good bs e (both_of (good bs e) (all_good bs es) g).0
good_at bs (e ∷ es) (suc k) g h = good_at bs es k (both_of (good bs e) (all_good bs es) g).1 (omega arith)

pub record Turn (bs : List ℕ) (es : List Entry) (k : ℕ) (e : Entry) : Type 0 where
  pub inside : e.start + e.length ≤ length bs
  pub long : length (body_of bs e) ≡ e.length
  pub room : length (tuple_bytes bs (take k es)) + 2 + e.length ≤ length (tuple_bytes bs es)
  pub more : tuple_bytes bs (take (k + 1) es) ≡ tuple_bytes bs (take k es) ++ tuple_of bs e

pub turn : (bs : List ℕ) (es : List Entry) (k : ℕ) → all_good bs es ≡ true → k < length es → Turn bs es k (get_or es k no_entry)
turn bs es k g h =
    let e = get_or es k no_entry in
    let good = good_at bs es k g h in
    let long = long_body bs e good in
    let more = one_more bs es k h in
    let whole : tuple_bytes bs es ≡ tuple_bytes bs (take (k + 1) es) ++ tuple_bytes bs (drop (k + 1) es) = ap (tuple_bytes bs) (sym (take-append-drop (k + 1) es)) ∙ joined bs (take (k + 1) es) (drop (k + 1) es) in
    record {
      inside = good.inside;
      long = long;
      room = omega (arith, ap length whole, ap length more, long, length-append (tuple_bytes bs (take (k + 1) es)) (tuple_bytes bs (drop (k + 1) es)), length-append (tuple_bytes bs (take k es)) (tuple_of bs e));
      more = more;
    }
