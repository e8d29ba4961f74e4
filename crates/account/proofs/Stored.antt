-- A stored sector: the machine's store and marks, and the number of marks that are not 0, are the account's, the lengths stay, and the tests of later
-- sectors see nothing of it.
use Prim.Native.Nat.{ℕ, zero, suc, ◌+◌, ◌-◌, ◌*◌, ◌/◌, ◌<◌}
use mathlib.Core.Bool.{Bool}
use mathlib.Core.Path.{◌≡◌, refl, ◌∙◌}
use mathlib.Core.List.{List}
use native.Mathlib.Omega.{arith}
use lib.ListN.{length, set, length-append, length-take, length-drop, length-set}
use lib.Seq.{get_or-set_other}
use borrow.Author.Tests.{lt-ltb}
use Rattle.sectors.specs.Marks.{lowered}
use Rattle.sectors.specs.Sectors.{store_marks, stored, with_sector}
use Rattle.account.specs.Plain.{Finish}
use Rattle.account.specs.Course.{Course}
use Rattle.account.specs.Sweeps.{sweep_from, tests}
use Rattle.account.specs.WholeSectors.{put_sector, bad_at, bad_from}

-- a store and marks of n sectors
abbrev pub LentFor : ℕ → List ℕ → List ℕ → Type 0
LentFor n store marks = (length store ≡ 512 * n) × (length marks ≡ n)

pub stored_is : (n i b : ℕ) (store marks bytes : List ℕ) → i < n → LentFor n store marks →
    stored (store_marks store marks b) i bytes ≡ store_marks (put_sector i bytes store) (set marks i 0) (b - bad_at i marks)
unfolding stored with_sector lowered
stored_is n i b store marks bytes h l =
    let q : length store / 512 ≡ n = rw l.0 (omega arith) in
    let e : 512 * (i + 1) ≡ 512 * i + 512 = omega arith in
    rw (q, l.1, lt-ltb i n h, e)

pub put-length : (i n : ℕ) (b s : List ℕ) → i < n → length b ≡ 512 → length s ≡ 512 * n → length (put_sector i b s) ≡ 512 * n
put-length i n b s h e f = simp (length-append, length-take, length-drop) (omega arith)

pub stored-lent : (n i : ℕ) (store marks bytes : List ℕ) → i < n → LentFor n store marks → length bytes ≡ 512 → LentFor n (put_sector i bytes store) (set marks i 0)
stored-lent n i store marks bytes h l e = (put-length i n bytes store h e l.0, length-set marks i 0 ∙ l.1)

test_later : (forbids : ℕ → Bool) (e : Finish) (c : Course) (marks : List ℕ) (i j : ℕ) → i < j → tests forbids e c (set marks i 0) j ≡ tests forbids e c marks j
unfolding tests
test_later forbids e c marks i j h = rw (get_or-set_other marks i j 0 0 (omega arith))

pub sweep-later : (forbids : ℕ → Bool) (e : Finish) (c : Course) (marks : List ℕ) (i j n : ℕ) → i < j → sweep_from (tests forbids e c (set marks i 0)) j n ≡ sweep_from (tests forbids e c marks) j n
unfolding sweep_from
sweep-later forbids e c marks i j zero h = refl
sweep-later forbids e c marks i j (suc n) h = rw (test_later forbids e c marks i j h, sweep-later forbids e c marks i (j + 1) n (omega arith))

-- ---- the number of marks that are not 0

bad-later : (marks : List ℕ) (i j k : ℕ) → i < j → bad_from j k (set marks i 0) ≡ bad_from j k marks
unfolding bad_from
bad-later marks i j zero h = refl
bad-later marks i j (suc k) h = rw (get_or-set_other marks i j 0 0 (omega arith), bad-later marks i (j + 1) k (omega arith))

-- one sector, and k after it; and none
pub bad_on : (b i k : ℕ) (marks : List ℕ) → b - bad_from i (suc k) marks ≡ b - bad_at i marks - bad_from (i + 1) k (set marks i 0)
unfolding bad_from
bad_on b i k marks = rw (bad-later marks i (i + 1) k (omega arith)) (omega arith)

pub bad-none : (b i : ℕ) (marks : List ℕ) → b - bad_from i 0 marks ≡ b
unfolding bad_from
bad-none b i marks = omega arith
