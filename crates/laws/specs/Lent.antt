-- That no second byte of what was lent satisfies a promise: the buffer, the store and the marks of two answers are the same.
use Rattle.std.specs.Prelude.{ℕ, ◌≡◌, List}

abbrev pub SameLent : List ℕ → List ℕ → List ℕ → List ℕ → List ℕ → List ℕ → Type 0
SameLent b b' s s' m m' = (b ≡ b') × (s ≡ s') × (m ≡ m')
