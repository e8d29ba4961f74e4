-- The integrity word: what it achieves, whatever the bytes before it are, and so for every Identify.
use Rattle.std.proofs.Common.{◌≡◌, ℕ, zero, suc, ◌+◌, ◌%◌, ◌<◌, List, [], ◌∷◌, ◌++◌, length, get_or, set, sym, refl, ap, ◌∙◌, subst, arith, length-append, length-set}
use lib.ListN.{get_or-append}
use lib.Seq.{get_or_at, get_or-append_seam, set-append_left}
use Rattle.ground.specs.Choice.{every}
use Rattle.ground.specs.Lists.{listed}
use Rattle.geometry.specs.declared.Geometry.{Geometry}
use Rattle.geometry.specs.Limits.{fits, total_of}
use Rattle.identify.specs.declared.Facts.{Facts}
use Rattle.identify.specs.Integrity.{sum_of, integrity_low, integrity_high, giving_zero, with_integrity}
use Rattle.identify.specs.Words.{identify_word, identify_byte, told_bytes, identify_bytes}
use Rattle.identify.proofs.Bytes.{told_length, integrity_length}
use Rattle.identify.proofs.Sums.{sum_one_more, lacking}

-- ---- any bytes before it: those of today's words, and of any others

pub gives-zero : (l : List ℕ) → sum_of (with_integrity l) % 256 ≡ 0
unfolding with_integrity giving_zero integrity_high
gives-zero l =
    let m : List ℕ = l ++ (integrity_low ∷ []) in
    ap (λ (n : ℕ). n % 256) (sum_one_more m (integrity_high m)) ∙ lacking (sum_of m)

with_low : (l : List ℕ) → length (l ++ (integrity_low ∷ [])) ≡ length l + 1
with_low l = length-append l (integrity_low ∷ [])

pub low_at_lem : (l : List ℕ) → get_or (with_integrity l) (length l) 0 ≡ 0xA5
unfolding with_integrity giving_zero
low_at_lem l =
    let m : List ℕ = l ++ (integrity_low ∷ []) in
    get_or-append m (integrity_high m ∷ []) 0 (length l) (rw (with_low l) (omega arith)) ∙ get_or-append_seam l integrity_low [] 0

high_at_lem : (l : List ℕ) → get_or (with_integrity l) (length l + 1) 0 ≡ integrity_high (l ++ (integrity_low ∷ []))
unfolding with_integrity giving_zero
high_at_lem l = let m : List ℕ = l ++ (integrity_low ∷ []) in get_or_at m (integrity_high m) [] 0 (length l + 1) (with_low l)

-- one byte changed
byte_changed : (l : List ℕ) (i b : ℕ) → i < length l → sum_of (set l i b) + get_or l i 0 ≡ sum_of l + b
unfolding sum_of
byte_changed [] i b h = omega arith
byte_changed (x ∷ l) zero b h = omega arith
byte_changed (x ∷ l) (suc i) b h = let e = byte_changed l i b (omega arith) in omega arith

-- no other byte in its place gives the same sum: of bytes that give 0, one wrong byte is always noticed
pub one_wrong_byte : (l : List ℕ) (i b : ℕ) → i < length l → get_or l i 0 < 256 → b < 256 → sum_of (set l i b) % 256 ≡ sum_of l % 256 → b ≡ get_or l i 0
one_wrong_byte l i b h k n e = let c = byte_changed l i b h in omega arith

high_byte_lem : (l : List ℕ) → integrity_high l < 256
unfolding integrity_high
high_byte_lem l = omega arith

-- and so no other high byte gives 0
pub only_high : (l : List ℕ) (b : ℕ) → b < 256 → sum_of (set (with_integrity l) (length l + 1) b) % 256 ≡ 0 → b ≡ get_or (with_integrity l) (length l + 1) 0
only_high l b n e =
    one_wrong_byte (with_integrity l) (length l + 1) b (rw (integrity_length l) (omega arith)) (rw (high_at_lem l) (high_byte_lem (l ++ (integrity_low ∷ [])))) n (e ∙ sym (gives-zero l))

both_zero : (s t x b u v : ℕ) → t + x ≡ s + b → (t + u) % 256 ≡ 0 → (s + v) % 256 ≡ 0 → (u + b) % 256 ≡ (v + x) % 256
both_zero s t x b u v c d e = omega arith

-- "It follows every change": by as much as a byte before it changes, the high byte changes the other way
pub follows : (l : List ℕ) (i b : ℕ) → i < length l →
    (get_or (with_integrity (set l i b)) (length l + 1) 0 + b) % 256 ≡ (get_or (with_integrity l) (length l + 1) 0 + get_or l i 0) % 256
unfolding integrity_high
follows l i b h =
    let m : List ℕ = l ++ (integrity_low ∷ []) in
    let changed : set m i b ≡ set l i b ++ (integrity_low ∷ []) = set-append_left l (integrity_low ∷ []) i b h in
    let new : get_or (with_integrity (set l i b)) (length l + 1) 0 ≡ integrity_high (set m i b) =
    ap (λ (n : ℕ). get_or (with_integrity (set l i b)) (n + 1) 0) (sym (length-set l i b)) ∙ high_at_lem (set l i b) ∙ ap integrity_high (sym changed) in
    let old : get_or m i 0 ≡ get_or l i 0 = get_or-append l (integrity_low ∷ []) 0 i h in
    rw (new, high_at_lem l, ← old)
    (both_zero (sum_of m) (sum_of (set m i b)) (get_or m i 0) b _ _ (byte_changed m i b (rw (with_low l) (omega arith))) (lacking (sum_of (set m i b))) (lacking (sum_of m)))

-- ---- every Identify: any default and any current geometry, any number of marks that are not 0

pub identify_gives_zero : (f : Facts) → sum_of (identify_bytes f) % 256 ≡ 0
unfolding identify_bytes
identify_gives_zero f = gives-zero (told_bytes f)

pub identify_low : (f : Facts) → get_or (identify_bytes f) 510 0 ≡ 0xA5
unfolding identify_bytes
identify_low f = subst (λ (n : ℕ). get_or (with_integrity (told_bytes f)) n 0 ≡ 0xA5) (told_length f) (low_at_lem (told_bytes f))

-- no other high byte gives 0
pub identify_only : (f : Facts) (b : ℕ) → b < 256 → sum_of (set (identify_bytes f) 511 b) % 256 ≡ 0 → b ≡ get_or (identify_bytes f) 511 0
unfolding identify_bytes
identify_only f =
    subst (λ (n : ℕ). (b : ℕ) → b < 256 → sum_of (set (with_integrity (told_bytes f)) (n + 1) b) % 256 ≡ 0 → b ≡ get_or (with_integrity (told_bytes f)) (n + 1) 0) (told_length f)
    (only_high (told_bytes f))

-- ---- an Identify by computing: C 4, H 2, S 4 at power-on, with no mark that is not 0 and with three

abbrev four_two_four : ℕ → Facts
four_two_four bad = let g : Geometry = record { cylinders = 4; heads = 2; sectors = 4 } in record { default = g; current = g; bad = bad }

pub at_power_on : let b = identify_bytes (four_two_four 0) in (get_or b 511 0 ≡ 0x46) × (get_or b 510 0 ≡ 0xA5)
unfolding listed total_of fits every identify_word identify_byte told_bytes identify_bytes sum_of integrity_high giving_zero with_integrity
at_power_on = (refl, refl)

pub with_three : let b = identify_bytes (four_two_four 3) in (get_or b 258 0 ≡ 3) × (get_or b 259 0 ≡ 0) × (get_or b 511 0 ≡ 0x43) × (get_or b 510 0 ≡ 0xA5)
unfolding listed total_of fits every identify_word identify_byte told_bytes identify_bytes sum_of integrity_high giving_zero with_integrity
with_three = (refl, refl, refl, refl)
