-- A stored sector: its bytes, its mark, the number of marks that are not 0, and nothing else.
use Prim.Native.Nat.{ℕ, suc, ◌+◌, ◌*◌, ◌-◌, ◌/◌, ◌<◌, ◌≤◌}
use mathlib.Core.Bool.{Bool, true, false}
use mathlib.Core.Path.{◌≡◌, refl, ap, ◌∙◌}
use mathlib.Core.List.{List, ◌++◌}
use native.Mathlib.Omega.{arith}
use lib.Dec.{ltb}
use lib.ListN.{length, take, drop, get_or, get_or-append}
use lib.Seq.{length-take-le, get_or-append-add, get_or-take, get_or-drop, get_or-set_same, get_or-set_other}
use borrow.Author.Tests.{eq-eqb, ne_eqb, lt-ltb, ltb-true, ltb-false}
use Rattle.ground.specs.Choice.{pick}
use Rattle.sectors.specs.Marks.{one_if_bad, lowered}
use Rattle.sectors.specs.Sectors.{with_sector, StoreMarks, stored}
use Rattle.sectors.specs.Stored.{SectorStored}

module _ (store : List ℕ) (i : ℕ) (bytes : List ℕ) (h : 512 * i + 512 ≤ length store) (e : length bytes ≡ 512) where
  front : length (take (512 * i) store) ≡ 512 * i
  front = length-take-le (512 * i) store (omega arith)

  in_back : (n : ℕ) → 512 * i ≤ n → get_or (with_sector store i bytes) n 0 ≡ get_or (bytes ++ drop (512 * i + 512) store) (n - 512 * i) 0
  unfolding with_sector
  in_back n l =
      let f = front in
      let z : n ≡ length (take (512 * i) store) + (n - 512 * i) = omega arith in
      ap (λ (x : ℕ). get_or (with_sector store i bytes) x 0) z ∙ get_or-append-add (take (512 * i) store) _ (n - 512 * i) 0

  inside : (n : ℕ) → n < 512 → get_or (with_sector store i bytes) (512 * i + n) 0 ≡ get_or bytes n 0
  inside n l =
      let z : 512 * i + n - 512 * i ≡ n = omega arith in
      in_back (512 * i + n) (omega arith) ∙ ap (λ (x : ℕ). get_or (bytes ++ drop (512 * i + 512) store) x 0) z ∙ get_or-append bytes _ 0 n (omega arith)

  outside : (b : Bool) (n : ℕ) → ltb n (512 * i) ≡ b → (n / 512 ≡ i → ⊥) → get_or (with_sector store i bytes) n 0 ≡ get_or store n 0
  unfolding with_sector
  outside true n q d =
      let f = front in
      let l = ltb-true n (512 * i) q in
      get_or-append (take (512 * i) store) _ 0 n (omega arith) ∙ get_or-take (512 * i) store n 0 l
  outside false n q d =
      let l = ltb-false n (512 * i) q in
      let z : n - 512 * i ≡ length bytes + (n - 512 * i - 512) = omega arith in
      let y : 512 * i + 512 + (n - 512 * i - 512) ≡ n = omega arith in
      in_back n l
      ∙ ap (λ (x : ℕ). get_or (bytes ++ drop (512 * i + 512) store) x 0) z
      ∙ get_or-append-add bytes (drop (512 * i + 512) store) (n - 512 * i - 512) 0
      ∙ get_or-drop (512 * i + 512) store (n - 512 * i - 512) 0
      ∙ ap (λ (x : ℕ). get_or store x 0) y

lowered-not : (mark b : ℕ) → mark ≡ 0 → lowered mark b ≡ b
unfolding lowered
lowered-not mark b h = let z : one_if_bad mark ≡ 0 = ap (λ (t : Bool). pick t 0 1) (eq-eqb mark 0 h) in omega arith

lowered_once : (mark b n : ℕ) → (mark ≡ 0 → ⊥) → b ≡ suc n → lowered mark b ≡ n
unfolding lowered
lowered_once mark b n h e = let z : one_if_bad mark ≡ 1 = ap (λ (t : Bool). pick t 0 1) (ne_eqb mark 0 h) in omega arith

-- Of a store and marks that have sector i.
pub stored-sector : (k : StoreMarks) (i : ℕ) (bytes : List ℕ) → 512 * i + 512 ≤ length k.store → i < length k.marks → length bytes ≡ 512 →
    SectorStored i bytes k (stored k i bytes)
unfolding stored lowered
stored-sector k i bytes h l e =
    rw (lt-ltb i (length k.store / 512) (omega arith), lt-ltb i (length k.marks) l)
    (record {
      stored = inside k.store i bytes h e;
      marked = get_or-set_same k.marks i 0 0 l;
      others = λ n d. outside k.store i bytes h e (ltb n (512 * i)) n refl d;
      other_marks = λ j d. get_or-set_other k.marks i j 0 0 d;
      sound_before = λ z. lowered-not (get_or k.marks i 0) k.bad z;
      bad_before = λ d n z. lowered_once (get_or k.marks i 0) k.bad n d z;
      never_below = λ z. omega arith;
    })
