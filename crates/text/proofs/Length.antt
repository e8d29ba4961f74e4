-- How long a text is.
use Rattle.std.proofs.Common.{ℕ, zero, suc, ◌+◌, ◌*◌, ◌/◌, ◌<◌, ◌≤◌, Bool, ltb, [], ◌∷◌, ◌++◌, length, arith, length-append, Ok, Err}
use Rattle.ground.proofs.Picks.{pick-elim}
use Rattle.answers.specs.declared.Refusal.{Refusal}
use Rattle.answers.specs.Answers.{number_of, outcome_number, Outcome}
use Rattle.answers.proofs.Outcomes.{number_range}
use Rattle.text.specs.Digits.{further_digits, decimal, hex_four}
use Rattle.text.specs.Lines.{blank, newline, letter, line, bad, unopened}
use Rattle.text.proofs.Texts.{further_small, last_length}

-- numbers below a bound have at most so many digits more than one; those below ten times the bound one more
abbrev Within : ℕ → ℕ → Type 0
Within bound most = (k n : ℕ) → n < bound → further_digits k n ≤ most

ten : Within 10 0
ten k n h = let e = further_small k n h in omega arith

more : (bound most : ℕ) → Within bound most → Within (10 * bound) (most + 1)
unfolding further_digits
more bound most w zero n h = omega arith
more bound most w (suc k) n h =
    pick-elim (λ (x : ℕ). x ≤ most + 1) (ltb n 10) _ _
    (λ e. omega arith)
    (λ e. let f = w k (n / 10) (omega arith) in omega arith)

decimal-length : (n bound most : ℕ) → Within bound most → n < bound → length (decimal n) ≤ most + 1
decimal-length n bound most w h =
    let e = last_length (further_digits 19 n + 1) n in
    let f = w 19 n h in
    omega arith

two_digits : Within 100 1
two_digits = more 10 0 ten

four_digits : Within 10000 3
four_digits = more 1000 2 (more 100 1 two_digits)

five_digits : Within 100000 4
five_digits = more 10000 3 four_digits

answer_below : (o : Outcome) → outcome_number o < 100
answer_below (Ok v) = omega arith
answer_below (Err r) = omega (arith, number_range r)

-- a line of a number below 10,000 has at most 15 bytes, `bad` with a place below 100,000 at most 10, `open` at most 8
pub line-length : (number : ℕ) (write : Bool) (o : Outcome) (value : ℕ) → number < 10000 → length (line number write (outcome_number o) value) ≤ 15
line-length number write o value h =
    let d = decimal-length number 10000 3 four_digits h in
    let a = decimal-length (outcome_number o) 100 1 two_digits (answer_below o) in
    rw (
      length-append (decimal number) (letter write ++ (decimal (outcome_number o) ++ ((blank ∷ []) ++ (hex_four value ++ (newline ∷ []))))),
      length-append (decimal (outcome_number o)) ((blank ∷ []) ++ (hex_four value ++ (newline ∷ []))),
    )
    (omega arith)

pub bad-length : (place : ℕ) → place < 100000 → length (bad place) ≤ 10
bad-length place h =
    let d = decimal-length place 100000 4 five_digits h in
    let e = length-append (decimal place) (newline ∷ []) in
    omega arith

pub unopened-length : (r : Refusal) → length (unopened (number_of r)) ≤ 8
unopened-length r =
    let d = decimal-length (number_of r) 100 1 two_digits (omega (arith, number_range r)) in
    let e = length-append (decimal (number_of r)) (newline ∷ []) in
    omega arith
