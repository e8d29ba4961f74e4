-- Lists: a copy, one element a turn; a part of a list of equal elements; a list made by a function; the first two of a rest.
use mathlib.Core.Path.{◌≡◌, refl, sym, ap, ◌∙◌}
use mathlib.Core.List.{List, [], ◌∷◌, ◌++◌}
use Prim.Native.Nat.{ℕ, zero, suc, ◌+◌, ◌<◌, ◌≤◌}
use native.Mathlib.Omega.{arith}
use native.Mathlib.Nat.{not-suc-le-zero, le_of_suc-le-suc, add-zero}
use native.Mathlib.Numerals.{add-one}
use lib.ListN.{length, set, take, drop, replicate, get_or}
use lib.Seq.{take_all, take-suc-set, take-suc, drop-cons}
use Rattle.ground.specs.Lists.{listed}

-- a turn: the element at n is stored
pub copy_more : (n : ℕ) (s d : List ℕ) → n < length s → n < length d → take n d ≡ take n s → take (n + 1) (set d n (get_or s n 0)) ≡ take (n + 1) s
copy_more n s d ls ld e =
    rw (add-one, take-suc-set d n (get_or s n 0) ld, take-suc s n 0 ls)
    (ap (λ (t : List ℕ). t ++ (get_or s n 0 ∷ [])) e)

-- the end: a whole copy
pub copy_all : (n : ℕ) (s d : List ℕ) → length s ≤ n → length d ≤ n → take n d ≡ take n s → d ≡ s
copy_all n s d ls ld e = sym (take_all n d ld) ∙ e ∙ take_all n s ls

pub get_or-replicate : {A : Type 0} (m j : ℕ) (x : A) → get_or (replicate m x) j x ≡ x
get_or-replicate zero j x = refl
get_or-replicate (suc m) zero x = refl
get_or-replicate (suc m) (suc j) x = get_or-replicate m j x

pub listed-length {ℓ} : {A : Type ℓ} (f : ℕ → A) (i n : ℕ) → length (listed f i n) ≡ n
unfolding listed
listed-length f i zero = refl
listed-length f i (suc n) = ap suc (listed-length f (i + 1) n)

pub listed_at {ℓ} : {A : Type ℓ} (f : ℕ → A) (i n k : ℕ) (d : A) → k < n → get_or (listed f i n) k d ≡ f (i + k)
unfolding listed
listed_at f i zero k d h = absurd (not-suc-le-zero h)
listed_at f i (suc n) zero d h = ap f (sym (add-zero i))
listed_at f i (suc n) (suc k) d h =
    let e : i + 1 + k ≡ i + suc k = omega arith in
    listed_at f (i + 1) n k d (le_of_suc-le-suc h) ∙ ap f e

pub drop_two : (s : List ℕ) (at : ℕ) → at + 1 < length s → drop at s ≡ get_or s at 0 ∷ (get_or s (at + 1) 0 ∷ drop (at + 2) s)
drop_two s at h =
    let more : suc (suc at) ≡ at + 2 = omega arith in
    drop-cons s at 0 (omega arith)
    ∙ ap (λ (l : List ℕ). get_or s at 0 ∷ l) (drop-cons s (suc at) 0 (omega arith) ∙ ap (λ (k : ℕ). get_or s k 0 ∷ drop (suc (suc at)) s) (sym (add-one at)) ∙ ap (λ (k : ℕ). get_or s (at + 1) 0 ∷ drop k s) more)
