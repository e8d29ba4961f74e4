-- What holds of each row of a table, where it names the number, and of the rest, holds of what stands at the number.
use Prim.Native.Nat.{ℕ}
use mathlib.Core.Path.{◌≡◌}
use mathlib.Core.Bool.{true}
use mathlib.Core.List.{List, [], ◌∷◌}
use Rattle.ground.specs.Tables.{Numbered, names, entry_of, lookup}
use Rattle.ground.proofs.Picks.{pick-elim}

abbrev pub EachRow {ℓ} : {A : Type ℓ} (P : A → Type 0) → List (Numbered A) → ℕ → Type 0
EachRow P [] n = Unit {0}
EachRow P (e ∷ l) n = (names e n ≡ true → P (entry_of e)) × EachRow P l n

pub lookup-elim {ℓ} : {A : Type ℓ} (P : A → Type 0) (l : List (Numbered A)) (n : ℕ) (rest : A) → EachRow P l n → P rest → P (lookup l n rest)
lookup-elim P [] n rest h r = r
lookup-elim P (e ∷ l) n rest h r = pick-elim P (names e n) _ _ h.0 (λ x. lookup-elim P l n rest h.1 r)
