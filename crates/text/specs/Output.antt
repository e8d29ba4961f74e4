-- What a lent output holds once text was put into it.
use Rattle.std.specs.Prelude.{◌≡◌, ℕ, ◌+◌, ◌≤◌, min, List, [], ◌∷◌, ◌++◌, length, take, drop, nat_lt, slice_set}
use Rattle.ground.specs.Choice.{pick}

-- an output that is lent too short holds the text's first bytes; what lies past the text's end stays
abbrev pub holding : List ℕ → List ℕ → List ℕ
holding bytes text = take (length bytes) text ++ drop (length text) bytes

-- an output and the place where the next byte goes
pub record Output : Type 0 where
  pub bytes : List ℕ
  pub at : ℕ

abbrev pub output : List ℕ → ℕ → Output
output bytes at = record { bytes = bytes; at = at }

-- an output that text was put into from its start
abbrev pub put_at_start : List ℕ → List ℕ → Output
put_at_start bytes text = output (holding bytes text) (min (length text) (length bytes))

-- a byte past the end is left out
unfoldable pub put_byte : Output → ℕ → Output
put_byte o b = pick (nat_lt o.at (length o.bytes)) (output (slice_set o.bytes o.at b) (o.at + 1)) o

unfoldable pub put : Output → List ℕ → Output
put o [] = o
put o (b ∷ text) = put (put_byte o b) text

-- the same of bytes that are known to have room
unfoldable pub written : List ℕ → ℕ → List ℕ → List ℕ
written bytes at [] = bytes
written bytes at (b ∷ text) = written (slice_set bytes at b) (at + 1) text

-- what writing a text from a place on leaves, and the place after it
pub record Wrote (before : List ℕ) (at : ℕ) (text after : List ℕ) (next : ℕ) : Type 0 where
  pub bytes : after ≡ written before at text
  pub place : next ≡ at + length text

-- a number of bytes at an output's start, as a caller needs it who takes them
abbrev pub LiesIn : ℕ → List ℕ → Type 0
LiesIn n bytes = (n ≤ length bytes) × (n ≡ length (take n bytes))
