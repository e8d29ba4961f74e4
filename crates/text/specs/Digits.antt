-- Numbers as text: in decimal, and 01's "four hex digits".
use Rattle.std.specs.Prelude.{ℕ, zero, suc, ◌+◌, ◌*◌, ◌/◌, ◌%◌, ◌^◌, List, [], ◌∷◌, ◌++◌, drop, ◌==◌, nat_le, nat_lt, slice_index}
use Rattle.ground.specs.Choice.{pick}
use Rattle.ground.specs.Lists.{listed}
use Rattle.text.specs.declared.digits.LineNumber.{LineNumber}

-- the code of a digit; and of a hex digit above 9, of which 10 is A, whose code is 65
abbrev pub digit_code : ℕ → ℕ
digit_code d = 48 + d

abbrev pub high_digit_code : ℕ → ℕ
high_digit_code d = 55 + d

-- the digits that a number has besides its last, at most k
unfoldable pub further_digits : ℕ → ℕ → ℕ
further_digits zero n = 0
further_digits (suc k) n = pick (nat_lt n 10) 0 (further_digits k (n / 10) + 1)

-- a number of 64 bits has at most 20 digits
abbrev pub digit_count : ℕ → ℕ
digit_count n = further_digits 19 n + 1

-- the last k digits of a number
unfoldable pub last_digits : ℕ → ℕ → List ℕ
last_digits zero n = []
last_digits (suc k) n = last_digits k (n / 10) ++ (digit_code (n % 10) ∷ [])

-- a number in decimal
abbrev pub decimal : ℕ → List ℕ
decimal n = last_digits (digit_count n) n

-- "in four hex digits"
unfoldable pub hex_digit : ℕ → ℕ
hex_digit d = pick (nat_lt d 10) (digit_code d) (high_digit_code d)

abbrev pub hex_four : ℕ → List ℕ
hex_four v = hex_digit (v / 4096) ∷ hex_digit (v / 256 % 16) ∷ hex_digit (v / 16 % 16) ∷ hex_digit (v % 16) ∷ []

-- ---- the same without a division: an access's number is counted up with the text of its last four digits, and hex digits are read two at a time from a table

-- four bytes as one number, the first the lowest; and the bytes of such a number
abbrev pub packed : ℕ → ℕ → ℕ → ℕ → ℕ
packed a b c d = a + 0x100 * b + 0x10000 * c + 0x1000000 * d

abbrev pub four_bytes : ℕ → List ℕ
four_bytes p = p % 256 ∷ p / 0x100 % 256 ∷ p / 0x10000 % 256 ∷ p / 0x1000000 ∷ []

abbrev pub line_number : ℕ → LineNumber
line_number n = record { value = n; digits = packed (digit_code (n / 1000 % 10)) (digit_code (n / 100 % 10)) (digit_code (n / 10 % 10)) (digit_code (n % 10)) }

-- one up, to n: the last digit, or the last but one after a nine, whose code is 0x39; else all are told anew
abbrev pub next_by : ℕ → ℕ → LineNumber
next_by digits n =
    pick (n == 0) (line_number 0)
    (pick (nat_lt digits 0x39000000) (record { value = n; digits = digits + 0x1000000 })
    (pick (nat_lt (digits % 0x1000000) 0x390000) (record { value = n; digits = 0x30000000 + digits % 0x1000000 + 0x10000 })
    (line_number n)))

-- numbers have 64 bits: past the last comes 0
unfoldable pub next_number : LineNumber → LineNumber
next_number f = next_by f.digits ((f.value + 1) % 2 ^ 64)

-- a number's last four digits without zeros in front
abbrev pub no_zeros : ℕ → List ℕ → List ℕ
no_zeros n text = pick (nat_le 1000 n) text (pick (nat_le 100 n) (drop 1 text) (pick (nat_le 10 n) (drop 2 text) (drop 3 text)))

unfoldable pub short_numeral : LineNumber → List ℕ
short_numeral f = no_zeros f.value (four_bytes f.digits)

-- a number in decimal: its last four digits are enough where it has no more
unfoldable pub numeral : LineNumber → List ℕ
numeral f = pick (nat_lt f.value 10000) (short_numeral f) (decimal f.value)

-- the two hex digits of each byte in turn: 2 for each of 256
abbrev pub hex_table_bytes : ℕ
hex_table_bytes = 512

unfoldable pub hex_at : ℕ → ℕ
hex_at i = pick (i % 2 == 0) (hex_digit (i / 32)) (hex_digit (i / 2 % 16))

unfoldable pub hex_table : List ℕ
hex_table = listed hex_at 0 hex_table_bytes

-- by such a table: the digits of a byte, and four hex digits
abbrev pub hex_pair : List ℕ → ℕ → List ℕ
hex_pair table b = slice_index table (2 * b) ∷ slice_index table (2 * b + 1) ∷ []

abbrev pub hex_by : List ℕ → ℕ → List ℕ
hex_by table v = hex_pair table (v / 256) ++ hex_pair table (v % 256)
