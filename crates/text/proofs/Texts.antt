-- Laws of numbers as text.
use Rattle.std.proofs.Common.{◌≡◌, ℕ, zero, suc, ◌+◌, ◌-◌, ◌/◌, ◌%◌, ◌<◌, ◌≤◌, List, [], ◌∷◌, ◌++◌, length, set, refl, not-suc-le-zero, add-one, sub-one, arith, length-append, le-ltb, lt-ltb}
use Rattle.text.specs.Digits.{digit_code, further_digits, last_digits}
use Rattle.text.specs.Output.{written}
use Rattle.text.proofs.Outputs.{written_last}

-- the count of digits, a digit a turn
pub further_small : (k n : ℕ) → n < 10 → further_digits k n ≡ 0
unfolding further_digits
further_small zero n h = refl
further_small (suc k) n h = simp (lt-ltb n 10 h)

pub further_more : (k n : ℕ) → 0 < k → 10 ≤ n → further_digits k n ≡ further_digits (k - 1) (n / 10) + 1
unfolding further_digits
further_more zero n h g = absurd (not-suc-le-zero h)
further_more (suc k) n h g = simp (le-ltb n 10 g, sub-one)

pub further_none : (k n : ℕ) → k ≤ 0 → further_digits k n ≡ 0
unfolding further_digits
further_none zero n h = refl
further_none (suc k) n h = absurd (not-suc-le-zero h)

-- the last digits
pub last_length : (k n : ℕ) → length (last_digits k n) ≡ k
unfolding last_digits
last_length zero n = refl
last_length (suc k) n =
    let e = length-append (last_digits k (n / 10)) (digit_code (n % 10) ∷ []) in
    let h = last_length k (n / 10) in
    omega arith

pub last_none : (k n at : ℕ) (b : List ℕ) → k ≤ 0 → written b at (last_digits k n) ≡ b
unfolding last_digits written
last_none zero n at b h = refl
last_none (suc k) n at b h = absurd (not-suc-le-zero h)

pub last_turn : (k n at : ℕ) (b : List ℕ) → 0 < k → written b at (last_digits k n) ≡ written (set b (at + (k - 1)) (digit_code (n % 10))) at (last_digits (k - 1) (n / 10))
unfolding last_digits
last_turn zero n at b h = absurd (not-suc-le-zero h)
last_turn (suc k) n at b h =
    let e = written_last (last_digits k (n / 10)) b at (digit_code (n % 10)) in
    rw sub-one (rw (last_length k (n / 10)) at e)

-- a number's text, a digit at a time from its end
pub digits_one : (k n : ℕ) → n < 10 → last_digits (further_digits k n + 1) n ≡ digit_code (n % 10) ∷ []
unfolding last_digits
digits_one k n h = rw (further_small k n h) refl

pub digits_more : (k n : ℕ) → 10 ≤ n → last_digits (further_digits (suc k) n + 1) n ≡ last_digits (further_digits k (n / 10) + 1) (n / 10) ++ (digit_code (n % 10) ∷ [])
unfolding further_digits last_digits
digits_more k n h = rw (le-ltb n 10 h, add-one (further_digits k (n / 10) + 1)) refl
