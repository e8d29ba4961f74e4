-- Sums of bytes with wrap-around in eight bits: one byte more, and the byte with which all give 0.
use Rattle.std.proofs.Common.{◌≡◌, ℕ, suc, ◌+◌, ◌-◌, ◌%◌, ◌<◌, List, [], ◌∷◌, ◌++◌, length, take, set, sym, ap, ◌∙◌, le_refl, add-zero, add_assoc, zero-add, arith, length-set, take_all, take-suc-set, set-set}
use Rattle.std.specs.List.{fold}
use Rattle.identify.specs.Integrity.{sum_of, integrity_low, integrity_high, giving_zero, with_integrity}

pub sum-append : (a b : List ℕ) → sum_of (a ++ b) ≡ sum_of a + sum_of b
unfolding sum_of
sum-append [] b = sym (zero-add (sum_of b))
sum-append (x ∷ a) b = ap (λ (n : ℕ). x + n) (sum-append a b) ∙ sym (add_assoc x (sum_of a) (sum_of b))

pub sum_one_more : (l : List ℕ) (b : ℕ) → sum_of (l ++ (b ∷ [])) ≡ sum_of l + b
unfolding sum_of
sum_one_more l b = sum-append l (b ∷ []) ∙ ap (λ (n : ℕ). sum_of l + n) (add-zero b)

-- the sum as a fold over the bytes
summed_from : (s : ℕ) (l : List ℕ) → s < 256 → fold (λ a b. (a + b) % 256) s l ≡ (s + sum_of l) % 256
unfolding sum_of
summed_from s [] h = omega arith
summed_from s (x ∷ l) h = let e = summed_from ((s + x) % 256) l (omega arith) in e ∙ omega arith

pub summed : (l : List ℕ) → fold (λ a b. (a + b) % 256) 0 l ≡ sum_of l % 256
summed l = summed_from 0 l (omega arith) ∙ ap (λ (n : ℕ). n % 256) (zero-add (sum_of l))

-- what brings a sum to 0, and only that
pub lacking : (s : ℕ) → (s + (256 - s % 256) % 256) % 256 ≡ 0
lacking s = omega arith

pub only_lacking : (s b : ℕ) → b < 256 → (s + b) % 256 ≡ 0 → b ≡ (256 - s % 256) % 256
only_lacking s b h e = omega arith

-- the last byte of a list
last_set : (n : ℕ) (l : List ℕ) (b : ℕ) → length l ≡ suc n → set l n b ≡ take n l ++ (b ∷ [])
last_set n l b h = sym (take_all (suc n) (set l n b) (rw (length-set l n b, h) (le_refl (suc n)))) ∙ take-suc-set l n b (rw h (le_refl (suc n)))

-- the two bytes of the integrity word, put in
pub put_in : (l : List ℕ) (b : ℕ) → length l ≡ 512 → b < 256 → (b + sum_of (set (set l 510 integrity_low) 511 0) % 256) % 256 ≡ 0 →
    set (set (set l 510 integrity_low) 511 0) 511 b ≡ with_integrity (take 510 l)
unfolding with_integrity giving_zero integrity_high
put_in l b h k e =
    let m : List ℕ = set l 510 integrity_low in
    let low : take 511 m ≡ take 510 l ++ (integrity_low ∷ []) = take-suc-set l 510 integrity_low (rw h (omega arith)) in
    let long : length m ≡ 512 = length-set l 510 integrity_low ∙ h in
    let s : sum_of (set m 511 0) ≡ sum_of (take 511 m) = ap sum_of (last_set 511 m 0 long) ∙ sum_one_more (take 511 m) 0 ∙ add-zero (sum_of (take 511 m)) in
    let v : b ≡ (256 - sum_of (take 511 m) % 256) % 256 = only_lacking (sum_of (take 511 m)) b k (omega (arith, e, s)) in
    set-set m 511 0 b ∙ last_set 511 m b long ∙ ap (λ (x : ℕ). take 511 m ++ (x ∷ [])) v ∙ ap (λ (t : List ℕ). t ++ ((256 - sum_of t % 256) % 256 ∷ [])) low
