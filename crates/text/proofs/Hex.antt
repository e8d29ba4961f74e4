-- The table's hex digits are those of the value.
use Rattle.std.proofs.Common.{◌≡◌, ℕ, ◌+◌, ◌*◌, ◌/◌, ◌%◌, ◌<◌, length, get_or, refl, ap, ◌∙◌, arith}
use Rattle.ground.proofs.Lists.{listed_at, listed-length}
use Rattle.text.specs.Digits.{hex_digit, hex_four, hex_at, hex_table, hex_by}

pub table_length : length hex_table ≡ 512
unfolding hex_table
table_length = listed-length hex_at 0 512

pub table_at : (i : ℕ) → i < 512 → get_or hex_table i 0 ≡ hex_at i
unfolding hex_table
table_at i h = let e : 0 + i ≡ i = omega arith in listed_at hex_at 0 512 i 0 h ∙ ap hex_at e

byte_hex : (b : ℕ) → b < 256 → (get_or hex_table (2 * b) 0 ≡ hex_digit (b / 16)) × (get_or hex_table (2 * b + 1) 0 ≡ hex_digit (b % 16))
unfolding hex_at
byte_hex b h =
    let e : 2 * b % 2 ≡ 0 = omega arith in
    let f : 2 * b / 32 ≡ b / 16 = omega arith in
    let g : (2 * b + 1) % 2 ≡ 1 = omega arith in
    let k : (2 * b + 1) / 2 ≡ b = omega arith in
    (table_at (2 * b) (omega arith) ∙ simp (e, f), table_at (2 * b + 1) (omega arith) ∙ simp (g, k))

pub table_hex : (v : ℕ) → v < 65536 → hex_by hex_table v ≡ hex_four v
table_hex v h =
    let a = byte_hex (v / 256) (omega arith) in
    let b = byte_hex (v % 256) (omega arith) in
    let e : v / 256 / 16 ≡ v / 4096 = omega arith in
    let f : v % 256 / 16 ≡ v / 16 % 16 = omega arith in
    let g : v % 256 % 16 ≡ v % 16 = omega arith in
    rw (a.0, a.1, b.0, b.1, e, f, g) refl
