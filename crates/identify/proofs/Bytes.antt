-- The bytes of Identify, for the code that fills the buffer: how many they are, and which; those of word 129.
use Rattle.std.proofs.Common.{◌≡◌, ℕ, ◌+◌, ◌/◌, ◌%◌, ◌<◌, List, [], ◌∷◌, ◌++◌, length, get_or, take, drop, set, replicate, sym, refl, ap, ◌∙◌, add_assoc, zero-add, arith, length-append, take-append-drop, take-add, ne_eqb}
use Rattle.std.proofs.Common.{zero, suc, ◌==◌, append_assoc, drop-drop, drop_at}
use Rattle.ground.specs.Choice.{pick}
use lib.ListN.{get_or-append}
use lib.Seq.{take-append-le, take-set-le, drop-set-add, sets-eq}
use Rattle.ground.specs.Lists.{listed}
use Rattle.ground.specs.Tables.{lookup}
use Rattle.identify.specs.declared.Facts.{Facts}
use Rattle.identify.specs.Integrity.{integrity_at, integrity_low, integrity_high, giving_zero, with_integrity}
use Rattle.identify.specs.Words.{to_word61, byte_of, identify_word, identify_byte, told_bytes, identify_bytes}
use Rattle.ground.proofs.Lists.{listed-length, listed_at}

-- a word's bytes, low byte first
half : (k w : ℕ) → k < 2 → w < 65536 → get_or (w % 256 ∷ (w / 256 % 256 ∷ [])) k 0 ≡ pick (k == 0) (w % 256) (w / 256)
half zero w k h = refl
half (suc zero) w k h = omega arith
half (suc (suc n)) w k h = absurd (omega arith)

pub half_of : (i w : ℕ) → w < 65536 → get_or (w % 256 ∷ (w / 256 % 256 ∷ [])) (i % 2) 0 ≡ byte_of i w
half_of i w h = half (i % 2) w (omega arith) h

pub told_length : (f : Facts) → length (told_bytes f) ≡ integrity_at
unfolding told_bytes
told_length f = listed-length (identify_byte f) 0 integrity_at

pub told_at : (f : Facts) (k : ℕ) → k < integrity_at → get_or (told_bytes f) k 0 ≡ identify_byte f k
unfolding told_bytes
told_at f k h = listed_at (identify_byte f) 0 integrity_at k 0 h ∙ ap (identify_byte f) (zero-add k)

-- after word 61 only word 129 is told
told_after : (f : Facts) → drop 124 (told_bytes f) ≡ replicate 134 0 ++ (f.bad % 256 ∷ (f.bad / 256 ∷ replicate 250 0))
unfolding listed identify_word identify_byte told_bytes
told_after f = refl

-- before word 62 the table's rows to word 61 are enough
pub table_byte : (f : Facts) (i : ℕ) → i < 124 → byte_of i (lookup (to_word61 f) (i / 2) 0) ≡ identify_byte f i
unfolding identify_byte identify_word
table_byte f i h = rw (ne_eqb (i / 2) 129 (λ e. omega arith)) refl

-- the bytes of words 0 to 61, then 0, with word 129 put in: words 0 to 254
pub put_in_129 : (f : Facts) (b : List ℕ) → take 124 b ≡ take 124 (told_bytes f) → drop 124 b ≡ replicate 388 0 →
    take 510 (set (set b 258 (f.bad % 256)) 259 (f.bad / 256)) ≡ told_bytes f
put_in_129 f b e z =
    let low = f.bad % 256 in
    let high = f.bad / 256 in
    let m : List ℕ = set (set b 258 low) 259 high in
    let before : take 124 m ≡ take 124 (told_bytes f) = take-set-le 124 (set b 258 low) 259 high (omega arith) ∙ take-set-le 124 b 258 low (omega arith) ∙ e in
    let after : drop 124 m ≡ set (set (replicate 388 0) 134 low) 135 high =
    drop-set-add 124 (set b 258 low) 135 high ∙ ap (λ (l : List ℕ). set l 135 high) (drop-set-add 124 b 134 low ∙ ap (λ (l : List ℕ). set l 134 low) z) in
    take-add 124 386 m
    ∙ ap (λ (l : List ℕ). l ++ take 386 (drop 124 m)) before
    ∙ ap (λ (l : List ℕ). take 124 (told_bytes f) ++ take 386 l) after
    ∙ ap (λ (l : List ℕ). take 124 (told_bytes f) ++ l) (sym (told_after f))
    ∙ take-append-drop 124 (told_bytes f)

-- the same of a table and zeros with the two bytes copied in: a copy is two stores
pub copied_in_129 : (f : Facts) (table word : List ℕ) → length table ≡ 124 → take 124 table ≡ take 124 (told_bytes f) → word ≡ f.bad % 256 ∷ (f.bad / 256 % 256 ∷ []) → f.bad < 65536 →
    take 510 (take 258 (table ++ replicate 388 0) ++ (word ++ drop 2 (drop 258 (table ++ replicate 388 0)))) ≡ told_bytes f
copied_in_129 f table word long e w h =
    let z : List ℕ = replicate 388 0 in
    let b : List ℕ = table ++ z in
    let q : f.bad / 256 % 256 ≡ f.bad / 256 = omega arith in
    let v : List ℕ = f.bad % 256 ∷ (f.bad / 256 ∷ []) in
    let n : length b ≡ 512 = length-append table z ∙ ap (λ (k : ℕ). k + 388) long in
    let stores : take 258 b ++ (word ++ drop 2 (drop 258 b)) ≡ set (set b 258 (f.bad % 256)) 259 (f.bad / 256) =
    rw (w, q, drop-drop 2 258 b, ← append_assoc (take 258 b) v (drop 260 b)) (sym (sets-eq v b 258 (omega arith))) in
    ap (λ (l : List ℕ). take 510 l) stores ∙ put_in_129 f b (take-append-le 124 table z (omega arith) ∙ e) (drop_at table z 124 long)

pub integrity_length : (l : List ℕ) → length (with_integrity l) ≡ length l + 2
unfolding with_integrity giving_zero
integrity_length l = rw (length-append, length-append) (add_assoc (length l) 1 1)

pub identify_length : (f : Facts) → length (identify_bytes f) ≡ 512
unfolding identify_bytes
identify_length f = integrity_length (told_bytes f) ∙ ap (λ (n : ℕ). n + 2) (told_length f)

-- a byte before the integrity word
before_it : (f : Facts) (k : ℕ) → k < integrity_at → get_or (identify_bytes f) k 0 ≡ identify_byte f k
unfolding identify_bytes with_integrity giving_zero
before_it f k h =
    let l = told_bytes f in
    let e = told_length f in
    let m : List ℕ = l ++ (integrity_low ∷ []) in
    let n : length m ≡ length l + 1 = length-append l (integrity_low ∷ []) in
    get_or-append m (integrity_high m ∷ []) 0 k (omega arith) ∙ get_or-append l (integrity_low ∷ []) 0 k (omega arith) ∙ told_at f k h

-- 02, "Eight": word 129, low byte first
pub word_129 : (f : Facts) → (get_or (identify_bytes f) 258 0 ≡ f.bad % 256) × (get_or (identify_bytes f) 259 0 ≡ f.bad / 256)
unfolding identify_byte identify_word
word_129 f = (before_it f 258 (omega arith), before_it f 259 (omega arith))

-- 02, "One": word 47 is 0010H, whatever the card has set
pub word_47 : (f : Facts) → (get_or (identify_bytes f) 94 0 ≡ 0x10) × (get_or (identify_bytes f) 95 0 ≡ 0x00)
unfolding identify_byte identify_word
word_47 f = (before_it f 94 (omega arith), before_it f 95 (omega arith))
