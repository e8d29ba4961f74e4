-- The digits that are counted up are those of the number, and they print it.
use Rattle.std.proofs.Common.{◌≡◌, ℕ, suc, ◌+◌, ◌*◌, ◌/◌, ◌%◌, ◌^◌, ◌<◌, ◌≤◌, Bool, eqb, ltb, leb, List, [], ◌∷◌, ◌++◌, sym, refl, ap, ◌∙◌, arith, ltb-false, ltb-true, eqb-true, leb-false, leb-true}
use borrow.Author.Tests.{eqb-false}
use Rattle.ground.proofs.Picks.{pick-elim}
use Rattle.text.specs.declared.digits.LineNumber.{LineNumber}
use Rattle.text.specs.Digits.{digit_code, further_digits, last_digits, decimal, packed, four_bytes, line_number, next_number, no_zeros, short_numeral, numeral, hex_table, hex_by}
use Rattle.text.specs.Lines.{line_by, line}
use Rattle.text.proofs.Hex.{table_hex}
use Rattle.text.proofs.Texts.{digits_one, digits_more}

-- four bytes, packed and taken apart
low_three : (a b c d : ℕ) → a < 256 → b < 256 → c < 256 → packed a b c d % 0x1000000 ≡ a + 0x100 * b + 0x10000 * c
low_three a b c d h i j = omega arith

bytes_of_lem : (a b c d : ℕ) → a < 256 → b < 256 → c < 256 → four_bytes (packed a b c d) ≡ a ∷ b ∷ c ∷ d ∷ []
bytes_of_lem a b c d h i j =
    let e : packed a b c d % 256 ≡ a = omega arith in
    let f : packed a b c d / 0x100 ≡ b + 0x100 * (c + 0x100 * d) = omega arith in
    let g : packed a b c d / 0x10000 ≡ c + 0x100 * d = omega arith in
    let k : packed a b c d / 0x1000000 ≡ d = omega arith in
    let l : (b + 0x100 * (c + 0x100 * d)) % 256 ≡ b = omega arith in
    let m : (c + 0x100 * d) % 256 ≡ c = omega arith in
    rw (e, f, g, k, l, m) refl

-- the last digit goes up, or is a nine and the last but one does
up_one : (n : ℕ) → n % 10 < 9 → (line_number (n + 1)).digits ≡ (line_number n).digits + 0x1000000
up_one n h =
    let e : (n + 1) / 1000 ≡ n / 1000 = omega arith in
    let f : (n + 1) / 100 ≡ n / 100 = omega arith in
    let g : (n + 1) / 10 ≡ n / 10 = omega arith in
    let k : (n + 1) % 10 ≡ n % 10 + 1 = omega arith in
    rw (e, f, g, k) (omega arith)

over : (q : ℕ) → q % 10 < 9 → ((q + 1) / 10 ≡ q / 10) × ((q + 1) / 100 ≡ q / 100)
over q h = (omega arith, omega arith)

by_tens : (n : ℕ) → (n / 100 ≡ n / 10 / 10) × (n / 1000 ≡ n / 10 / 100)
by_tens n = (omega arith, omega arith)

up_ten : (n : ℕ) → n % 10 ≡ 9 → n / 10 % 10 < 9 → (line_number (n + 1)).digits ≡ 0x30000000 + (line_number n).digits % 0x1000000 + 0x10000
up_ten n h i =
    let m : (n + 1) / 10 ≡ n / 10 + 1 = omega arith in
    let e : (n + 1) / 1000 ≡ n / 1000 = (by_tens (n + 1)).1 ∙ ap (λ (q : ℕ). q / 100) m ∙ (over (n / 10) i).1 ∙ sym (by_tens n).1 in
    let f : (n + 1) / 100 ≡ n / 100 = (by_tens (n + 1)).0 ∙ ap (λ (q : ℕ). q / 10) m ∙ (over (n / 10) i).0 ∙ sym (by_tens n).0 in
    let g : (n / 10 + 1) % 10 ≡ n / 10 % 10 + 1 = omega arith in
    let k : (n + 1) % 10 ≡ 0 = omega arith in
    let l = low_three (digit_code (n / 1000 % 10)) (digit_code (n / 100 % 10)) (digit_code (n / 10 % 10)) (digit_code (n % 10)) (omega arith) (omega arith) (omega arith) in
    rw (l, e, f, m, g, k) (omega arith)

abbrev told : ℕ → ℕ → LineNumber
told n p = record { value = n; digits = p }

-- numbers of 64 bits go round
pub next_number_lem : (n : ℕ) → n < 2 ^ 64 → line_number ((n + 1) % 2 ^ 64) ≡ next_number (line_number n)
unfolding next_number
next_number_lem n h =
    let p = (line_number n).digits in
    let l = low_three (digit_code (n / 1000 % 10)) (digit_code (n / 100 % 10)) (digit_code (n / 10 % 10)) (digit_code (n % 10)) (omega arith) (omega arith) (omega arith) in
    let Next : LineNumber → Type 0 = λ (f : LineNumber). line_number ((n + 1) % 2 ^ 64) ≡ f in
    pick-elim Next (eqb ((n + 1) % 2 ^ 64) 0) _ _
    (λ e. ap line_number (eqb-true _ _ e))
    (λ e. let i : (n + 1) % 2 ^ 64 ≡ 0 → ⊥ = eqb-false _ _ e in
    let j : (n + 1) % 2 ^ 64 ≡ n + 1 = omega arith in
    pick-elim Next (ltb p 0x39000000) _ _
    (λ f. let a = ltb-true p 0x39000000 f in rw j (ap (told (n + 1)) (up_one n (omega (arith, a)))))
    (λ f. pick-elim Next (ltb (p % 0x1000000) 0x390000) _ _
    (λ g. let a = ltb-false p 0x39000000 f in
    let b : p % 0x1000000 < 0x390000 = ltb-true _ _ g in
    rw j (ap (told (n + 1)) (up_ten n (omega (arith, a)) (omega (arith, l, b)))))
    (λ g. refl)))

-- two, three and four digits
two : (k n : ℕ) → 10 ≤ n → n < 100 → last_digits (further_digits (suc k) n + 1) n ≡ digit_code (n / 10 % 10) ∷ digit_code (n % 10) ∷ []
two k n g h = digits_more k n g ∙ ap (λ (l : List ℕ). l ++ (digit_code (n % 10) ∷ [])) (digits_one k (n / 10) (omega arith))

three : (k n : ℕ) → 100 ≤ n → n < 1000 → last_digits (further_digits (suc (suc k)) n + 1) n ≡ digit_code (n / 100 % 10) ∷ digit_code (n / 10 % 10) ∷ digit_code (n % 10) ∷ []
three k n g h =
    let e : n / 10 / 10 ≡ n / 100 = omega arith in
    digits_more (suc k) n (omega arith) ∙ ap (λ (l : List ℕ). l ++ (digit_code (n % 10) ∷ [])) (rw e at (two k (n / 10) (omega arith) (omega arith)))

all_four : (k n : ℕ) → 1000 ≤ n → n < 10000 →
    last_digits (further_digits (suc (suc (suc k))) n + 1) n ≡ digit_code (n / 1000 % 10) ∷ digit_code (n / 100 % 10) ∷ digit_code (n / 10 % 10) ∷ digit_code (n % 10) ∷ []
all_four k n g h =
    let e : n / 10 / 10 ≡ n / 100 = omega arith in
    let f : n / 10 / 100 ≡ n / 1000 = omega arith in
    digits_more (suc (suc k)) n (omega arith) ∙ ap (λ (l : List ℕ). l ++ (digit_code (n % 10) ∷ [])) (rw (e, f) at (three k (n / 10) (omega arith) (omega arith)))

short : (n : ℕ) → n < 10000 → short_numeral (line_number n) ≡ decimal n
unfolding short_numeral
short n h =
    let Prints : List ℕ → Type 0 = λ (t : List ℕ). t ≡ decimal n in
    ap (no_zeros n) (bytes_of_lem (digit_code (n / 1000 % 10)) (digit_code (n / 100 % 10)) (digit_code (n / 10 % 10)) (digit_code (n % 10)) (omega arith) (omega arith) (omega arith))
    ∙ pick-elim Prints (leb 1000 n) _ _
    (λ e. sym (all_four 16 n (leb-true _ _ e) h))
    (λ e. pick-elim Prints (leb 100 n) _ _
    (λ f. sym (three 17 n (leb-true _ _ f) (leb-false _ _ e)))
    (λ f. pick-elim Prints (leb 10 n) _ _
    (λ g. sym (two 18 n (leb-true _ _ g) (leb-false _ _ f)))
    (λ g. sym (digits_one 19 n (leb-false _ _ g)))))

-- a number's own digits print it
numeral_of : (n : ℕ) → numeral (line_number n) ≡ decimal n
unfolding numeral
numeral_of n = pick-elim (λ (t : List ℕ). t ≡ decimal n) (ltb n 10000) _ _ (λ e. short n (ltb-true _ _ e)) (λ e. refl)

digits_print : (f : LineNumber) → f ≡ line_number f.value → numeral f ≡ decimal f.value
digits_print f e = ap numeral e ∙ numeral_of f.value

-- what has a number's digits has those of its own
pub own_number : (f : LineNumber) (n : ℕ) → f ≡ line_number n → f ≡ line_number f.value
own_number f n e = e ∙ ap (λ (g : LineNumber). line_number g.value) (sym e)

-- a line by the number's own digits and by the table
pub line_print : (f : LineNumber) (table : List ℕ) (write : Bool) (answer value : ℕ) → f ≡ line_number f.value → table ≡ hex_table → value < 65536 →
    line_by (numeral f) write answer (hex_by table value) ≡ line f.value write answer value
line_print f table write answer value e t h =
    ap (λ (n : List ℕ). line_by n write answer (hex_by table value)) (digits_print f e)
    ∙ ap (line_by (decimal f.value) write answer) (ap (λ (t : List ℕ). hex_by t value) t ∙ table_hex value h)
