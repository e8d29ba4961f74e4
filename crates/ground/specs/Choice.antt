-- A choice by a test: the first of two where it holds, else the second; a list of tests that must all hold; and the test of a range.

use Rattle.std.specs.Prelude.{ℕ, Bool, true, false, ◌&&◌, List, [], ◌∷◌, leb}

abbrev pub pick {ℓ} : {A : Type ℓ} → Bool → A → A → A
pick true a b = a
pick false a b = b

-- Every test of a list holds; a test is made only where those before it hold.
unfoldable pub every : List Bool → Bool
every [] = true
every (t ∷ l) = pick t (every l) false

-- first..last
abbrev pub within : ℕ → ℕ → ℕ → Bool
within first last n = leb first n && leb n last
