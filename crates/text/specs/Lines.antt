-- 01, "Session file": what is printed, as bytes.
use Rattle.std.specs.Prelude.{ℕ, Bool, List, [], ◌∷◌, ◌++◌, Ok, Err}
use Rattle.ground.specs.Choice.{pick}
use Rattle.text.specs.Digits.{decimal, hex_four}
use Rattle.answers.specs.Answers.{Outcome}

abbrev pub blank : ℕ
blank = 32

abbrev pub newline : ℕ
newline = 10

-- "a header always": `n op answer value`
unfoldable pub header : List ℕ
header = 110 ∷ blank ∷ 111 ∷ 112 ∷ blank ∷ 97 ∷ 110 ∷ 115 ∷ 119 ∷ 101 ∷ 114 ∷ blank ∷ 118 ∷ 97 ∷ 108 ∷ 117 ∷ 101 ∷ newline ∷ []

-- "R or W": the letter's code
abbrev pub letter_r : ℕ
letter_r = 82

abbrev pub letter_w : ℕ
letter_w = 87

abbrev pub letter_code : Bool → ℕ
letter_code write = pick write letter_w letter_r

-- between blanks
abbrev pub letter : Bool → List ℕ
letter write = blank ∷ letter_code write ∷ blank ∷ []

-- "for each access its number …, R or W, the answer, and the value read or written in four hex digits"
abbrev pub line_by : List ℕ → Bool → ℕ → List ℕ → List ℕ
line_by number write answer value =
    number ++ (letter write ++ (decimal answer ++ ((blank ∷ []) ++ (value ++ (newline ∷ [])))))

abbrev pub line : ℕ → Bool → ℕ → ℕ → List ℕ
line number write answer value = line_by (decimal number) write answer (hex_four value)

-- "the value read or written … (0000 if refused)"
abbrev pub shown_value : Outcome → Bool → ℕ → ℕ
shown_value (Ok v) write value = pick write value v
shown_value (Err r) write value = 0

-- "`bad` and the place of its first byte"
abbrev pub bad : ℕ → List ℕ
bad place = (98 ∷ 97 ∷ 100 ∷ blank ∷ []) ++ (decimal place ++ (newline ∷ []))

-- "`open` and the number"
abbrev pub unopened : ℕ → List ℕ
unopened number = (111 ∷ 112 ∷ 101 ∷ 110 ∷ blank ∷ []) ++ (decimal number ++ (newline ∷ []))
