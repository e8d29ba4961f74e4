-- What the functions give, by what the reader and the writer promise.
--     handed_outcome, handed_entry     after reading, a place holds the chain's entry of its number, or what the list held
--     made_is           the first places of an array, the last of which an entry was stored in, are the list to be written
--     back-written      where the reading is accepted, the writing of the entries read is the answer
use Rattle.std.proofs.Common.{Ok, Err}
use mathlib.Core.Path.{◌≡◌, refl, sym, ◌∙◌, ap}
use mathlib.Core.Bool.{Bool, true, false, true≢false}
use mathlib.Core.List.{List, ◌∷◌, ◌++◌, []}
use Prim.Native.Nat.{ℕ, zero, suc, ◌≤◌, ◌-◌, min}
use native.Mathlib.Omega.{arith}
use lib.ListN.{length, get_or, take, drop, set, replicate, length-replicate, get_or-eq_default}
use lib.Dec.{ltb}
use borrow.Author.Tests.{ltb-true, ltb-false}
use Rattle.std.proofs.lemmas.List.{take-replicate, drop-replicate}
use Rattle.ground.proofs.Lists.{get_or-replicate}
use Rattle.answers.specs.Answers.{refused, Outcome}
use Rattle.answers.proofs.Outcomes.{says}
use Rattle.tuples.specs.Read.{list_places, read_outcome, read_list, filled, unless_refused}
use Rattle.tuples.specs.Write.{Writes, write_outcome, filled_up, tuple_bytes}
use Rattle.tuples.specs.declared.Entry.{Entry}
use Rattle.tuples.proofs.Filling.{all}
use Rattle.tuples.proofs.Bounds.{most_entries, read_well}
use Rattle.trial_lists.specs.Lists.{counted_as, handed_after, made, back_outcome, WritesBack}

-- ---- what a place holds after reading
-- what stands after the entries is as good as nothing
get_or-replicate_after : {A : Type 0} (es : List A) (m j : ℕ) (x : A) → get_or (es ++ replicate m x) j x ≡ get_or es j x
get_or-replicate_after [] m j x = get_or-replicate m j x
get_or-replicate_after (e ∷ es) m zero x = refl
get_or-replicate_after (e ∷ es) m (suc j) x = get_or-replicate_after es m j x

-- a place of the list is the chain's entry of its number, or what the list held
by_answer : (s : List ℕ) (m j : ℕ) (x : Entry) (o : Outcome) → get_or (unless_refused o (filled (all s) (replicate m x)) (replicate m x)) j x ≡ get_or (unless_refused o (all s) []) j x
by_answer s m j x (Ok n) =
    ap (λ (l : List Entry). get_or (all s ++ l) j x) (drop-replicate (length (all s)) m x) ∙ get_or-replicate_after (all s) (m - length (all s)) j x
by_answer s m j x (Err y) = get_or-replicate m j x

place_holds : (s : List ℕ) (m j : ℕ) (x : Entry) → get_or (read_list s (replicate m x)) j x ≡ get_or (unless_refused (read_outcome s m) (all s) []) j x
place_holds s m j x =
    ap (λ (k : ℕ). get_or (unless_refused (read_outcome s k) (filled (all s) (replicate m x)) (replicate m x)) j x) (length-replicate m x) ∙ by_answer s m j x (read_outcome s m)

few : (s : List ℕ) (m : ℕ) (o : Outcome) → read_outcome s m ≡ o → length (unless_refused o (all s) []) ≤ 127
few s m (Ok n) e = let ok = read_well s m n e in most_entries s ok.sized ok.ended
few s m (Err y) e = omega arith

by_number : (es : List Entry) (i : ℕ) (x : Entry) → length es ≤ 127 → (t : Bool) → ltb i 255 ≡ t → get_or es (min i 255) x ≡ get_or es i x
by_number es i x h true e = ap (λ (j : ℕ). get_or es j x) (omega (arith, ltb-true i 255 e))
by_number es i x h false e =
    let far : length es ≤ i = omega (arith, ltb-false i 255 e) in
    let last : length es ≤ min i 255 = omega (arith, ltb-false i 255 e) in
    get_or-eq_default es x last ∙ sym (get_or-eq_default es x far)

-- in an array of 256, of which the first m places were lent, all numbers from 255 on name the last place
handed_place : (s : List ℕ) (m i : ℕ) (x : Entry) → get_or (read_list s (replicate m x) ++ replicate (256 - m) x) (min i 255) x ≡ get_or (read_list s (replicate m x)) i x
handed_place s m i x =
    get_or-replicate_after (read_list s (replicate m x)) (256 - m) (min i 255) x
    ∙ place_holds s m (min i 255) x
    ∙ by_number (unless_refused (read_outcome s m) (all s) []) i x (few s m (read_outcome s m) refl) (ltb i 255) refl
    ∙ sym (place_holds s m i x)

-- an array of 256 places of x, of which the first m were lent
module _ (s : List ℕ) (places i m p : ℕ) (x : Entry) (ls zs : List Entry) (em : m ≡ counted_as places) (most : m ≤ 256) (all-x : ls ≡ replicate 256 x) where
  lent : take m ls ≡ replicate m x
  lent = ap (take m) all-x ∙ take-replicate m 256 x most

  pub handed_outcome : (r : Outcome) → r ≡ read_outcome s (length (take m ls)) → r ≡ read_outcome s (counted_as places)
  handed_outcome r e = e ∙ ap (λ (l : List Entry). read_outcome s (length l)) lent ∙ ap (read_outcome s) (length-replicate m x ∙ em)

  pub handed_entry : p ≡ min i 255 → zs ≡ read_list s (take m ls) → get_or (zs ++ drop m ls) p x ≡ (handed_after s places x i).entry
  handed_entry ep e =
      ap (λ (j : ℕ). get_or (zs ++ drop m ls) j x) ep
      ∙ ap (λ (l : List Entry). get_or (l ++ drop m ls) (min i 255) x) (e ∙ ap (read_list s) lent)
      ∙ ap (λ (l : List Entry). get_or (read_list s (replicate m x) ++ l) (min i 255) x) (ap (drop m) all-x ∙ drop-replicate m 256 x)
      ∙ handed_place s m i x
      ∙ ap (λ (j : ℕ). get_or (read_list s (replicate j x)) i x) em

-- ---- a list that was made
last_set : (j : ℕ) (e f : Entry) → set (replicate (suc j) e) j f ≡ replicate j e ++ (f ∷ [])
last_set zero e f = refl
last_set (suc j) e f = ap (λ (l : List Entry). e ∷ l) (last_set j e f)

made_set : (n : ℕ) (e f : Entry) → set (replicate n e) (n - 1) f ≡ made n e f
unfolding made
made_set zero e f = refl
made_set (suc j) e f = let one : suc j - 1 ≡ j = omega arith in ap (λ (k : ℕ). set (replicate (suc j) e) k f) one ∙ last_set j e f

pub made_is : (n : ℕ) (e f : Entry) → n ≤ 256 → set (take n (replicate 256 e)) (length (take n (replicate 256 e)) - 1) f ≡ made n e f
made_is n e f h =
    ap (λ (l : List Entry). set l (length l - 1) f) (take-replicate n 256 e h) ∙ ap (λ (k : ℕ). set (replicate n e) (k - 1) f) (length-replicate n e) ∙ made_set n e f

-- ---- written back
pub back-written : (s os : List ℕ) (o r : Outcome) (z : List ℕ) → o ≡ read_outcome s list_places → refused o ≡ false → Writes s (all s) os r z → WritesBack s os r z
back-written s os (Err x) r z e h w = absurd (true≢false h)
back-written s os (Ok n) r z e h w =
    let b : write_outcome s (all s) (length os) ≡ back_outcome s (length os) = ap (λ (o : Outcome). unless_refused o (write_outcome s (all s) (length os)) o) e in
    (w.0 ∙ b, w.1 ∙ ap (λ (o : Outcome). unless_refused o (filled_up (tuple_bytes s (all s))) os) b, says _ _ (w.0 ∙ b))
