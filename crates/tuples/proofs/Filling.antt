-- A list that is being filled with a chain's entries, as the reader's loop has it.
--     after_one, after_two     what is left of the bytes after one of them, and after two
--     onward, turn     the next tuple is the first of the chain's, and the others come after it
--     fill_one         one element more, where a list was filled up to it
use mathlib.Core.Path.{◌≡◌, refl, sym, ◌∙◌, ap}
use mathlib.Core.List.{List, ◌∷◌, ◌++◌, nil≢cons, []}
use Rattle.std.specs.Prelude.{Some}
use Prim.Native.Nat.{ℕ, suc, ◌+◌, ◌<◌}
use native.Mathlib.Omega.{arith}
use native.Mathlib.Numerals.{add-one}
use lib.ListN.{length, get_or, take, drop, set}
use lib.Seq.{drop-cons, drop-drop, take-suc, set_at, length-take-le, append_snoc}
use lib.Dec.{leb, eqb}
use Rattle.ground.proofs.Picks.{pick-elim}
use Rattle.tuples.specs.Chain.{Chain, entry, no_entry, end_of, chain_from, chain_at, next_at, first_found, place_behind}
use Rattle.tuples.specs.declared.Entry.{Entry}
use Rattle.tuples.proofs.Chains.{after_body}

abbrev pub all : List ℕ → List Entry
all s = (chain_at s 0).entries

-- ---- the next tuple
abbrev Onward : List ℕ → List Entry → Type 0
Onward s fs = (e : Entry) (es : List Entry) → fs ≡ e ∷ es → (chain_at s (end_of e)).entries ≡ es

-- what is left after one byte, and after two
pub after_one : (s : List ℕ) (at b : ℕ) (r : List ℕ) → drop at s ≡ b ∷ r → drop (at + 1) s ≡ r
after_one s at b r d = sym (drop-drop 1 at s) ∙ ap (drop 1) d

pub after_two : (s : List ℕ) (at b n : ℕ) (r : List ℕ) → drop at s ≡ b ∷ (n ∷ r) → drop (at + 2) s ≡ r
after_two s at b n r d = sym (drop-drop 2 at s) ∙ ap (drop 2) d

-- a tuple stands at `at`, and r after its link
of_tuple : (s : List ℕ) (at b n : ℕ) (r : List ℕ) → drop (at + 2) s ≡ r → Onward s (entry b (at + 2) n ∷ (chain_from n r (at + 2)).entries)
of_tuple s at b n r d e es p =
    let first : entry b (at + 2) n ≡ e = cc in
    let others : (chain_from n r (at + 2)).entries ≡ es = cc in
    ap (λ (x : Entry). (chain_at s (end_of x)).entries) (sym first)
    ∙ sym (ap (λ (c : Chain). c.entries) (ap (λ (l : List ℕ). chain_from n l (at + 2)) (sym d) ∙ after_body s (at + 2) n)) ∙ others

onward_by : (s r : List ℕ) (at : ℕ) → drop at s ≡ r → Onward s (chain_from 0 r at).entries
unfolding chain_from
onward_by s [] at d = λ e es p. absurd (nil≢cons p)
onward_by s (b ∷ []) at d = λ e es p. absurd (nil≢cons p)
onward_by s (b ∷ (n ∷ r)) at d =
    let P : Chain → Type 0 = λ c. Onward s c.entries in
    pick-elim P (eqb b 255) _ _ (λ _ e es p. absurd (nil≢cons p))
    (λ _. pick-elim P (eqb b 0) _ _ (λ _. onward_by s (n ∷ r) (at + 1) (after_one s at b (n ∷ r) d))
    (λ _. pick-elim P (leb n (length r)) _ _ (λ _. of_tuple s at b n r (after_two s at b n r d)) (λ _ e es p. absurd (nil≢cons p))))

onward : (s : List ℕ) (at : ℕ) (e : Entry) (es : List Entry) → (chain_at s at).entries ≡ e ∷ es → (next_at s at ≡ Some e) × ((chain_at s (place_behind (next_at s at) at)).entries ≡ es)
unfolding next_at
onward s at e es p =
    (ap first_found p, ap (λ (l : List Entry). (chain_at s (place_behind (first_found l) at)).entries) p ∙ onward_by s (drop at s) at refl e es p)

-- one element more, where the list was filled up to it
pub fill_one : {A : Type 0} (es ls zs : List A) (k : ℕ) (d e : A) → k < length es → k < length ls → e ≡ get_or es k d → zs ≡ take k es ++ drop k ls → set zs k e ≡ take (k + 1) es ++ drop (k + 1) ls
fill_one es ls zs k d e p q h f =
    ap (λ l. set l k e) (f ∙ ap (λ l. take k es ++ l) (drop-cons ls k d q))
    ∙ set_at (take k es) (get_or ls k d) (drop (suc k) ls) e k (length-take-le k es (omega arith))
    ∙ sym (append_snoc (take k es) e (drop (suc k) ls))
    ∙ ap (λ l. l ++ drop (suc k) ls) (ap (λ x. take k es ++ (x ∷ [])) h ∙ sym (take-suc es k d p))
    ∙ ap (λ (j : ℕ). take j es ++ drop j ls) (sym (add-one k))

-- where k of the chain's tuples are behind, the next one is there, and the others come after it
pub turn : (s : List ℕ) (at k : ℕ) → (chain_at s at).entries ≡ drop k (all s) → k < length (all s)
    → (next_at s at ≡ Some (get_or (all s) k no_entry)) × ((chain_at s (place_behind (next_at s at) at)).entries ≡ drop (k + 1) (all s))
turn s at k left h =
    let o = onward s at (get_or (all s) k no_entry) (drop (suc k) (all s)) (left ∙ drop-cons (all s) k no_entry h) in
    (o.0, o.1 ∙ ap (λ (j : ℕ). drop j (all s)) (sym (add-one k)))
