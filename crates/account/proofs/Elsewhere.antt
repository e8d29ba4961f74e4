-- Bytes and marks outside the sectors that are replaced, blanked or cleared stay.
use Prim.Native.Nat.{ℕ, zero, suc, ◌+◌, ◌-◌, ◌*◌, ◌≤◌, ◌<◌}
use mathlib.Core.Bool.{Bool, true, false}
use mathlib.Core.Path.{◌≡◌, refl, sym, ap, ◌∙◌}
use mathlib.Core.List.{List, ◌++◌}
use native.Mathlib.Omega.{arith}
use lib.Dec.{ltb}
use lib.ListN.{length, take, drop, set, get_or, replicate, length-drop, length-set, get_or-append}
use lib.Seq.{get_or-set_other, length-take-le, get_or-append-add, get_or-take, get_or-drop}
use borrow.Author.Tests.{ltb-true}
use Rattle.ground.specs.Choice.{pick}
use Rattle.account.specs.Numbers.{code_cylinder_or_lba}
use Rattle.account.specs.Plain.{Finish, Well, NotFound, Unreadable, WriteFault, Aborted}
use Rattle.account.specs.Course.{Course}
use Rattle.account.specs.Sweeps.{Sweep, tried, sweep_from, tests}
use Rattle.account.specs.WholeSectors.{put_sector, replaced, blanked, cleared}
use Rattle.account.specs.Follows.{SameOutside}
use Rattle.account.proofs.Stored.{put-length}

in_second : (a b : List ℕ) (k : ℕ) → length a ≤ k → get_or (a ++ b) k 0 ≡ get_or b (k - length a) 0
in_second a b k h =
    let e : k ≡ length a + (k - length a) = omega arith in
    ap (λ (n : ℕ). get_or (a ++ b) n 0) e ∙ get_or-append-add a b (k - length a) 0

put_before : (i : ℕ) (b s : List ℕ) (k : ℕ) → 512 * i ≤ length s → k < 512 * i → get_or (put_sector i b s) k 0 ≡ get_or s k 0
put_before i b s k l h =
    let e = length-take-le (512 * i) s l in
    get_or-append (take (512 * i) s) _ 0 k (omega arith) ∙ get_or-take (512 * i) s k 0 h

put_behind : (i : ℕ) (b s : List ℕ) (k : ℕ) → 512 * i ≤ length s → length b ≡ 512 → 512 * (i + 1) ≤ k → get_or (put_sector i b s) k 0 ≡ get_or s k 0
put_behind i b s k l f h =
    let e = length-take-le (512 * i) s l in
    let a = take (512 * i) s in
    let z : 512 * (i + 1) + (k - length a - length b) ≡ k = omega arith in
    in_second a (b ++ drop (512 * (i + 1)) s) k (omega arith)
    ∙ in_second b (drop (512 * (i + 1)) s) (k - length a) (omega arith)
    ∙ get_or-drop (512 * (i + 1)) s (k - length a - length b) 0
    ∙ ap (λ (n : ℕ). get_or s n 0) z

-- one sector put, and then sectors behind it
put_then : (i k n : ℕ) (b s t : List ℕ) → i + suc k ≤ n → length b ≡ 512 → length s ≡ 512 * n → SameOutside (512 * (i + 1)) (512 * (i + 1 + k)) (put_sector i b s) t → SameOutside (512 * i) (512 * (i + suc k)) s t
put_then i k n b s t h e f z = (
  λ x y. z.0 x (omega arith) ∙ put_before i b s x (omega arith) y,
  λ x y. z.1 x (omega arith) ∙ put_behind i b s x (omega arith) e (omega arith),
  z.2 ∙ put-length i n b s (omega arith) e f ∙ sym f,
)

pub replaced_same : (k i n : ℕ) (d s : List ℕ) → 512 * k ≤ length d → i + k ≤ n → length s ≡ 512 * n → SameOutside (512 * i) (512 * (i + k)) s (replaced i k d s)
unfolding replaced
replaced_same zero i n d s l h f = (λ x y. refl, λ x y. refl, refl)
replaced_same (suc k) i n d s l h f =
    let e : length (take 512 d) ≡ 512 = length-take-le 512 d (omega arith) in
    put_then i k n (take 512 d) s (replaced (i + 1) k (drop 512 d) (put_sector i (take 512 d) s)) h e f
    (replaced_same k (i + 1) n (drop 512 d) (put_sector i (take 512 d) s) (simp length-drop (omega arith)) (omega arith) (put-length i n (take 512 d) s (omega arith) e f))

pub blanked_same : (k i n : ℕ) (s : List ℕ) → i + k ≤ n → length s ≡ 512 * n → SameOutside (512 * i) (512 * (i + k)) s (blanked i k s)
unfolding blanked
blanked_same zero i n s h f = (λ x y. refl, λ x y. refl, refl)
blanked_same (suc k) i n s h f =
    put_then i k n (replicate 512 0xFF) s (blanked (i + 1) k (put_sector i (replicate 512 0xFF) s)) h refl f
    (blanked_same k (i + 1) n (put_sector i (replicate 512 0xFF) s) (omega arith) (put-length i n (replicate 512 0xFF) s (omega arith) refl f))

pub cleared_same : (k i : ℕ) (s : List ℕ) → SameOutside i (i + k) s (cleared i k s)
unfolding cleared
cleared_same zero i s = (λ x y. refl, λ x y. refl, refl)
cleared_same (suc k) i s =
    let z = cleared_same k (i + 1) (set s i 0) in
    (λ x y. z.0 x (omega arith) ∙ get_or-set_other s i x 0 0 (omega arith), λ x y. z.1 x (omega arith) ∙ get_or-set_other s i x 0 0 (omega arith), z.2 ∙ length-set s i 0)

-- ---- a sweep does sectors of its room only, and not more than are asked for

tried-most : (e : Finish) (n i : ℕ) (r : Sweep) → (tried e n i r).done ≤ suc r.done
tried-most Well n i r = omega arith
tried-most (NotFound code) n i r = omega arith
tried-most Unreadable n i r = omega arith
tried-most WriteFault n i r = omega arith
tried-most (Aborted code) n i r = omega arith

inside_by : (b : Bool) (x : Finish) (c : Course) (n i : ℕ) (r : Sweep) → ltb i c.room ≡ b → i ≤ c.room → (i + 1 ≤ c.room → i + 1 + r.done ≤ c.room) →
    i + (tried (pick b x (NotFound code_cylinder_or_lba)) n i r).done ≤ c.room
inside_by true x c n i r e h f =
    let l : i < c.room = ltb-true i c.room e in
    let z = f (omega arith) in
    let y = tried-most x n i r in
    omega arith
inside_by false x c n i r e h f = omega arith

pub sweep_inside : (forbids : ℕ → Bool) (e : Finish) (c : Course) (marks : List ℕ) (n i : ℕ) → i ≤ c.room → i + (sweep_from (tests forbids e c marks) i n).done ≤ c.room
unfolding sweep_from tests
sweep_inside forbids e c marks zero i h = omega arith
sweep_inside forbids e c marks (suc n) i h =
    inside_by (ltb i c.room) (pick (forbids (get_or marks i 0)) e Well) c (suc n) i (sweep_from (tests forbids e c marks) (i + 1) n) refl h (λ l. sweep_inside forbids e c marks n (i + 1) l)

pub sweep-most : (test : ℕ → Finish) (n i : ℕ) → (sweep_from test i n).done ≤ n
unfolding sweep_from
sweep-most test zero i = omega arith
sweep-most test (suc n) i =
    let z = sweep-most test n (i + 1) in
    let y = tried-most (test i) (suc n) i (sweep_from test (i + 1) n) in
    omega arith
