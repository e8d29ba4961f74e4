-- Bytes after bytes, and FFH after them.
--     put           a tuple's code, link and body, set after the bytes p of a page that is FFH from there on
use mathlib.Core.Path.{◌≡◌, sym, ◌∙◌, ap}
use mathlib.Core.List.{List, ◌∷◌, ◌++◌, append_assoc, []}
use Prim.Native.Nat.{ℕ, suc, ◌+◌, ◌≤◌, ◌-◌}
use native.Mathlib.Omega.{arith}
use lib.ListN.{length, take, drop, set, replicate, length-append}
use lib.Seq.{paste, set-append_seam, set_at, append_snoc, take_at, drop-append-add}
use Rattle.std.proofs.lemmas.List.{drop-replicate}
use Rattle.tuples.specs.Write.{filled_up}

-- a tuple is put after the bytes p
pub put : (p s : List ℕ) (c n : ℕ) → length (take n s) ≡ n → length p + 2 + n ≤ 255
    → paste (set (set (filled_up p) (length p) c) (length p + 1) n) (length p + 2) s n ≡ filled_up (p ++ (c ∷ (n ∷ take n s)))
put p s c n long fits =
    let k : ℕ = 254 - length p in
    let R : List ℕ = replicate k 255 in
    let h = p ++ (c ∷ (n ∷ [])) in
    let m : 256 - length p ≡ suc (suc k) = omega arith in
    let lh : length h ≡ length p + 2 = length-append p (c ∷ (n ∷ [])) in
    let lc : length (p ++ (c ∷ [])) ≡ length p + 1 = length-append p (c ∷ []) in
    let same : h ++ take n s ≡ p ++ (c ∷ (n ∷ take n s)) = append_assoc p (c ∷ (n ∷ [])) (take n s) in
    let lt : length (p ++ (c ∷ (n ∷ take n s))) ≡ length p + 2 + n = sym (ap length same) ∙ length-append h (take n s) ∙ ap (λ (j : ℕ). j + length (take n s)) lh ∙ ap (λ (j : ℕ). length p + 2 + j) long in
    let left : k - n ≡ 256 - length (p ++ (c ∷ (n ∷ take n s))) = omega (arith, lt) in
    let two : set (set (filled_up p) (length p) c) (length p + 1) n ≡ h ++ R =
    ap (λ (j : ℕ). set (set (p ++ replicate j 255) (length p) c) (length p + 1) n) m
    ∙ ap (λ (l : List ℕ). set l (length p + 1) n) (set-append_seam p 255 (255 ∷ R) c ∙ sym (append_snoc p c (255 ∷ R)))
    ∙ set_at (p ++ (c ∷ [])) 255 R n (length p + 1) lc
    ∙ append_assoc p (c ∷ []) (n ∷ R)
    ∙ sym (append_assoc p (c ∷ (n ∷ [])) R) in
    let rest : drop (length p + 2 + n) (h ++ R) ≡ replicate (k - n) 255 = ap (λ (j : ℕ). drop (j + n) (h ++ R)) (sym lh) ∙ drop-append-add h R n ∙ drop-replicate n k 255 in
    ap (λ (l : List ℕ). paste l (length p + 2) s n) two
    ∙ ap (λ (l : List ℕ). l ++ take n s ++ drop (length p + 2 + n) (h ++ R)) (take_at h R (length p + 2) lh)
    ∙ ap (λ (l : List ℕ). h ++ take n s ++ l) rest
    ∙ ap (λ (l : List ℕ). l ++ replicate (k - n) 255) same
    ∙ ap (λ (j : ℕ). (p ++ (c ∷ (n ∷ take n s))) ++ replicate j 255) left
