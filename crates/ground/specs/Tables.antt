-- A table that can be held beside the paper: a list of its rows, in the paper's order.
use Rattle.std.specs.Prelude.{ℕ, ◌/◌, Bool, List, [], ◌∷◌, eqb}
use Rattle.ground.specs.Choice.{pick, within}

-- what stands at a number, at the numbers from one to another, and at the two-digit numbers with this first digit (H)
pub data Numbered {ℓ} (A : Type ℓ) : Type ℓ where
  At : ℕ → A → Numbered A
  Through : ℕ → ℕ → A → Numbered A
  Digit : ℕ → A → Numbered A

abbrev pub names {ℓ} : {A : Type ℓ} → Numbered A → ℕ → Bool
names (At k x) n = eqb n k
names (Through k j x) n = within k j n
names (Digit d x) n = eqb (n / 16) d

abbrev pub entry_of {ℓ} : {A : Type ℓ} → Numbered A → A
entry_of (At k x) = x
entry_of (Through k j x) = x
entry_of (Digit d x) = x

-- what stands at a number: the first row that names it, else what is given for the rest
abbrev pub lookup {ℓ} : {A : Type ℓ} → List (Numbered A) → ℕ → A → A
lookup [] n rest = rest
lookup (e ∷ l) n rest = pick (names e n) (entry_of e) (lookup l n rest)
