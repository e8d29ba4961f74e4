-- Reading what was written, and writing what was read, said of the definitions.
--     laid, reads-back    the chain of what is written has the list's tuples, as they lie in a row
--     same_codes, same_bodies     so the codes are the same, and each body
--     back        a chain's tuples, written over its own bytes, are the chain up to its end mark, null tuples dropped; none of them is bad, and they fit
use mathlib.Core.Path.{◌≡◌, refl, sym, ◌∙◌, ap}
use mathlib.Core.Bool.{true, false, false≢true}
use mathlib.Core.List.{List, ◌∷◌, ◌++◌, map, append_assoc, []}
use Prim.Native.Nat.{ℕ, zero, suc, ◌+◌, ◌≤◌}
use native.Mathlib.Omega.{arith}
use lib.ListN.{length, take, drop, replicate, length-append, length-drop}
use lib.Seq.{length-take-le, drop_at, take_at}
use lib.Dec.{leb, eqb}
use borrow.Author.Tests.{le-leb}
use Rattle.ground.specs.Choice.{every}
use Rattle.ground.proofs.Picks.{pick-elim, both_of}
use Rattle.tuples.specs.Chain.{Chain, grow, entry, chain_from}
use Rattle.tuples.specs.Write.{good, body_of, tuple_bytes, all_good, nulls_dropped, codes}
use Rattle.tuples.specs.declared.Entry.{Entry}
use Rattle.tuples.proofs.Chains.{skip}
use Rattle.tuples.proofs.Filling.{after_one, after_two}
use Rattle.tuples.proofs.Goods.{is_good, long_body}

-- ---- reading what was written
-- the same tuples, as they lie in a row from a place on
unfoldable pub laid : ℕ → List Entry → List Entry
laid at [] = []
laid at (e ∷ es) = entry e.code (at + 2) e.length ∷ laid (at + 2 + e.length) es

abbrev pub whole : List Entry → Chain
whole es = record { entries = es; ended = true }

over_body : (body rest : List ℕ) (n at : ℕ) → length body ≡ n → chain_from n (body ++ rest) at ≡ chain_from 0 rest (at + n)
over_body body rest n at e = skip n (body ++ rest) at ∙ ap (λ (l : List ℕ). chain_from 0 l (at + n)) (drop_at body rest n e)

end_mark_lem : (m at : ℕ) → chain_from 0 (replicate (suc m) 255) at ≡ whole []
unfolding chain_from
end_mark_lem zero at = refl
end_mark_lem (suc m) at = refl

pub reads-back : (bs : List ℕ) (es : List Entry) (m at : ℕ) → all_good bs es ≡ true → chain_from 0 (tuple_bytes bs es ++ replicate (suc m) 255) at ≡ whole (laid at es)
unfolding tuple_bytes all_good laid chain_from every
reads-back bs [] m at p = end_mark_lem m at
reads-back bs (e ∷ es) m at p =
    let gs = both_of (good bs e) (all_good bs es) p in
    let g = is_good bs e gs.0 in
    let body = body_of bs e in
    let rest = tuple_bytes bs es ++ replicate (suc m) 255 in
    let fits : e.length ≤ length ((body ++ tuple_bytes bs es) ++ replicate (suc m) 255) = omega (arith, long_body bs e g, length-append body (tuple_bytes bs es), length-append (body ++ tuple_bytes bs es) (replicate (suc m) 255)) in
    simp (g.not_255, g.not_0, le-leb _ _ fits)
    (ap (grow (entry e.code (at + 2) e.length))
    (ap (λ (l : List ℕ). chain_from e.length l (at + 2)) (append_assoc body (tuple_bytes bs es) (replicate (suc m) 255))
    ∙ over_body body rest e.length (at + 2) (long_body bs e g)
    ∙ reads-back bs es m (at + 2 + e.length) gs.1))

pub same_codes : (es : List Entry) (at : ℕ) → codes (laid at es) ≡ codes es
unfolding laid
same_codes [] at = refl
same_codes (e ∷ es) at = ap (λ (l : List ℕ). e.code ∷ l) (same_codes es (at + 2 + e.length))

pub same_count : (es : List Entry) (at : ℕ) → length (laid at es) ≡ length es
unfolding laid
same_count [] at = refl
same_count (e ∷ es) at = ap suc (same_count es (at + 2 + e.length))

-- what lies in a row after p has the bodies that it was written from
pub same_bodies : (bs : List ℕ) (es : List Entry) (p q : List ℕ) (at : ℕ) → length p ≡ at → all_good bs es ≡ true → map (body_of (p ++ (tuple_bytes bs es ++ q))) (laid at es) ≡ map (body_of bs) es
unfolding tuple_bytes all_good laid every
same_bodies bs [] p q at l h = refl
same_bodies bs (e ∷ es) p q at l h =
    let gs = both_of (good bs e) (all_good bs es) h in
    let g = is_good bs e gs.0 in
    let body = body_of bs e in
    let n = e.length in
    let head = p ++ (e.code ∷ (n ∷ [])) in
    let rest = tuple_bytes bs es ++ q in
    let bytes = p ++ (tuple_bytes bs (e ∷ es) ++ q) in
    let long : length head ≡ at + 2 = omega (arith, length-append p (e.code ∷ (n ∷ [])), l) in
    let longer : length (head ++ body) ≡ at + 2 + n = omega (arith, length-append head body, long, long_body bs e g) in
    let split : bytes ≡ head ++ (body ++ rest) = ap (λ (t : List ℕ). p ++ (e.code ∷ (n ∷ t))) (append_assoc body (tuple_bytes bs es) q) ∙ sym (append_assoc p (e.code ∷ (n ∷ [])) (body ++ rest)) in
    let split2 : bytes ≡ (head ++ body) ++ rest = split ∙ sym (append_assoc head body rest) in
    let here : body_of bytes (entry e.code (at + 2) n) ≡ body =
    ap (λ (t : List ℕ). take n (drop (at + 2) t)) split ∙ ap (take n) (drop_at head (body ++ rest) (at + 2) long) ∙ take_at body rest n (long_body bs e g) in
    ap (λ (b : List ℕ). b ∷ map (body_of bytes) (laid (at + 2 + n) es)) here
    ∙ ap (λ (ls : List (List ℕ)). body ∷ ls) (ap (λ (t : List ℕ). map (body_of t) (laid (at + 2 + n) es)) split2 ∙ same_bodies bs es (head ++ body) q (at + 2 + n) longer gs.1)

-- ---- writing what was read
pub record Back (s : List ℕ) (k : ℕ) (r : List ℕ) (es : List Entry) : Type 0 where
  pub same : nulls_dropped k r ≡ take k r ++ tuple_bytes s es
  pub are_good : all_good s es ≡ true
  pub short : k + length (tuple_bytes s es) + 1 ≤ length r

-- a tuple in front
in_front : (s : List ℕ) (at b n : ℕ) (r : List ℕ) (fs : List Entry) → eqb b 255 ≡ false → eqb b 0 ≡ false → drop (at + 2) s ≡ r → Back s n r fs → Back s 0 (b ∷ (n ∷ r)) (entry b (at + 2) n ∷ fs)
unfolding nulls_dropped tuple_bytes all_good good every
in_front s at b n r fs h255 h0 d back =
    let room : n ≤ length r = omega (arith, back.short) in
    let long : length (body_of s (entry b (at + 2) n)) ≡ n = ap (λ (l : List ℕ). length (take n l)) d ∙ length-take-le n r room in
    let inside : at + 2 + n ≤ length s = omega (arith, ap length d, length-drop (at + 2) s, back.short) in
    record {
      same = simp (h255, h0) (ap (λ (l : List ℕ). b ∷ (n ∷ l)) (back.same ∙ ap (λ (l : List ℕ). take n l ++ tuple_bytes s fs) (sym d)));
      are_good = simp (h255, h0, le-leb _ _ inside) back.are_good;
      short = omega (arith, back.short, long, length-append (body_of s (entry b (at + 2) n)) (tuple_bytes s fs));
    }

pub back : (s : List ℕ) (k : ℕ) (r : List ℕ) (at : ℕ) → drop at s ≡ r → (chain_from k r at).ended ≡ true → Back s k r (chain_from k r at).entries
unfolding chain_from nulls_dropped tuple_bytes all_good every
back s k [] at d p = absurd (false≢true p)
back s (suc k) (b ∷ r) at d p =
    let ih = back s k r (at + 1) (after_one s at b r d) p in
    record { same = ap (λ (l : List ℕ). b ∷ l) ih.same; are_good = ih.are_good; short = omega (arith, ih.short) }
back s zero (b ∷ []) at d p = record { same = refl; are_good = refl; short = omega arith }
back s zero (b ∷ (n ∷ r)) at d p =
    let P : Chain → Type 0 = λ c. c.ended ≡ true → Back s 0 (b ∷ (n ∷ r)) c.entries in
    pick-elim P (eqb b 255) _ _ (λ h255 _. record { same = simp h255; are_good = refl; short = omega arith })
    (λ h255. pick-elim P (eqb b 0) _ _ (λ h0 q. let ih = back s zero (n ∷ r) (at + 1) (after_one s at b (n ∷ r) d) q in record { same = simp (h255, h0) ih.same; are_good = ih.are_good; short = omega (arith, ih.short) })
    (λ h0. pick-elim P (leb n (length r)) _ _
    (λ _ q. let e = after_two s at b n r d in in_front s at b n r (chain_from n r (at + 2)).entries h255 h0 e (back s n r (at + 2) e q)) (λ _ q. absurd (false≢true q)))) p
