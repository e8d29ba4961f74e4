-- Below, and not below, as tests of each other.
use Prim.Native.Nat.{ℕ}
use mathlib.Core.Bool.{Bool, true, false, not}
use mathlib.Core.Path.{◌≡◌, refl}
use lib.Dec.{leb, ltb}
use borrow.Author.Tests.{lt-leb, le-leb, lt-ltb, le-ltb, leb-true, leb-false, ltb-true, ltb-false}

below_by : (a b : ℕ) (t : Bool) → leb a b ≡ t → ltb b a ≡ not t
below_by a b true e = le-ltb _ _ (leb-true a b e)
below_by a b false e = lt-ltb _ _ (leb-false a b e)

pub below : (a b : ℕ) → ltb b a ≡ not (leb a b)
below a b = below_by a b (leb a b) refl

not_below_by : (i n : ℕ) (t : Bool) → ltb i n ≡ t → leb n i ≡ not t
not_below_by i n true e = lt-leb n i (ltb-true i n e)
not_below_by i n false e = le-leb n i (ltb-false i n e)

pub not_below : (i n : ℕ) → leb n i ≡ not (ltb i n)
not_below i n = not_below_by i n (ltb i n) refl
