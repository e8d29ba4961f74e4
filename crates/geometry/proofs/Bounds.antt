-- Products of bounded numbers are bounded, and the sums that an index is.
use Prim.Native.Nat.{ℕ, ◌+◌, ◌*◌, ◌≤◌}
use mathlib.Core.Path.{◌≡◌}
use native.Mathlib.Nat.{add-mul, mul-le-mul, mul-pos}
use native.Mathlib.Omega.{arith}

-- the kit's laws with their numbers given, so that the premises can be found
pub product_most : (a b m n : ℕ) → a ≤ m → b ≤ n → a * b ≤ m * n
product_most a b m n p q = mul-le-mul p q

pub product_positive : (a b : ℕ) → 1 ≤ a → 1 ≤ b → 1 ≤ a * b
product_positive a b p q = mul-pos p q

-- an index of any 16-bit geometry is far below 2^64.
pub index_most : (c h H S : ℕ) → c ≤ 65535 → h ≤ 15 → H ≤ 65535 → S ≤ 65535 → (c * H ≤ 4294836225) × ((c * H + h) * S ≤ 4294836240 * 65535)
index_most c h H S a b d e =
    let p = product_most c H 65535 65535 a d in
    (p, product_most (c * H + h) S 4294836240 65535 (omega arith) e)

-- one head further on is one row of sectors further on.
pub row_more : (x h s : ℕ) → (x + (h + 1)) * s ≡ (x + h) * s + s
row_more x h s =
    let e : x + (h + 1) ≡ x + h + 1 = omega arith in
    let m = add-mul (x + h) 1 s in
    rw e (omega arith)
