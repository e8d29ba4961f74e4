-- Identify's word 255: the byte that the account finds is what the machine's sum lacks.
use Prim.Native.Nat.{ℕ, zero, suc, ◌+◌, ◌*◌, ◌-◌, ◌/◌, ◌%◌, ◌≤◌, ◌<◌}
use mathlib.Core.Bool.{Bool, true, false≢true}
use mathlib.Core.Path.{◌≡◌, refl, sym, ap, ◌∙◌}
use mathlib.Core.List.{List, [], ◌∷◌, ◌++◌}
use native.Mathlib.Omega.{arith}
use borrow.Author.Tests.{eqb-true, eq-eqb}
use lib.Seq.{append_snoc}
use Rattle.ground.proofs.Picks.{pick-elim}
use Rattle.identify.specs.Integrity.{sum_of, integrity_low, integrity_high, giving_zero, with_integrity}
use Rattle.identify.proofs.Sums.{sum_one_more, lacking, only_lacking}
use Rattle.account.specs.Words.{bytes_of, summed, first_from, low_byte, ending, high_byte}

-- ---- the search: where one number alone passes, it is found

pub found : (passes : ℕ → Bool) (b n k : ℕ) → b ≤ k → k < b + n → passes k ≡ true → ((j : ℕ) → j ≤ k → passes j ≡ true → j ≡ k) → first_from passes b n ≡ k
unfolding first_from
found passes b zero k l h t u = let z : ⊥ = omega arith in absurd z
found passes b (suc n) k l h t u =
    pick-elim (λ x. x ≡ k) (passes b) b (first_from passes (b + 1) n)
    (λ e. u b l e)
    (λ e. let ne : b ≡ k → ⊥ = λ q. false≢true (sym e ∙ ap passes q ∙ t) in found passes (b + 1) n k (omega arith) (omega arith) t u)

-- ---- the sum, wrapped at each step or at the end

pub summed_is : (l : List ℕ) → summed l ≡ sum_of l % 256
unfolding summed sum_of
summed_is [] = refl
summed_is (b ∷ l) = let e = summed_is l in omega arith

-- ---- word 255 as its two bytes

bytes_append : (a : List ℕ) (w : ℕ) → bytes_of (a ++ (w ∷ [])) ≡ bytes_of a ++ (w % 256 ∷ w / 256 ∷ [])
unfolding bytes_of
bytes_append [] w = refl
bytes_append (x ∷ a) w = ap (λ (l : List ℕ). x % 256 ∷ x / 256 ∷ l) (bytes_append a w)

two_bytes : (words : List ℕ) (b : ℕ) → bytes_of (ending b words) ≡ bytes_of words ++ (integrity_low ∷ []) ++ (b ∷ [])
two_bytes words b =
    let low : (low_byte + 256 * b) % 256 ≡ low_byte = omega arith in
    let high : (low_byte + 256 * b) / 256 ≡ b = omega arith in
    bytes_append words (low_byte + 256 * b) ∙ rw (low, high) (sym (append_snoc (bytes_of words) integrity_low (b ∷ [])))

-- ---- so both high bytes are one

sum_with : (words : List ℕ) (b : ℕ) → summed (bytes_of (ending b words)) ≡ (sum_of (bytes_of words ++ (integrity_low ∷ [])) + b) % 256
sum_with words b =
    summed_is (bytes_of (ending b words))
    ∙ ap (λ (l : List ℕ). sum_of l % 256) (two_bytes words b)
    ∙ ap (λ (n : ℕ). n % 256) (sum_one_more (bytes_of words ++ (integrity_low ∷ [])) b)

high_is : (words : List ℕ) → high_byte words ≡ integrity_high (bytes_of words ++ (integrity_low ∷ []))
unfolding high_byte integrity_high
high_is words =
    let s : ℕ = sum_of (bytes_of words ++ (integrity_low ∷ [])) in
    let k : ℕ = (256 - s % 256) % 256 in
    found _ 0 256 k (omega arith) (omega arith)
    (eq-eqb (summed (bytes_of (ending k words))) 0 (sum_with words k ∙ lacking s))
    (λ j l e. only_lacking s j (omega arith) (sym (sum_with words j) ∙ eqb-true (summed (bytes_of (ending j words))) 0 e))

pub high_byte_lem : (words : List ℕ) → high_byte words < 256
unfolding integrity_high
high_byte_lem words = rw (high_is words) (omega arith)

pub ended_is : (words : List ℕ) → bytes_of (ending (high_byte words) words) ≡ with_integrity (bytes_of words)
unfolding with_integrity giving_zero
ended_is words = two_bytes words (high_byte words) ∙ ap (λ (b : ℕ). bytes_of words ++ (integrity_low ∷ []) ++ (b ∷ [])) (high_is words)
