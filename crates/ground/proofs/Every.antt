-- Of tests that all hold, each holds: of a list, and of two joined by `&&`. Where one test of a list fails, they do not all hold.
use Prim.Native.Nat.{ℕ, zero, suc}
use mathlib.Core.Bool.{Bool, true, false, ◌&&◌, false≢true}
use mathlib.Core.Path.{◌≡◌, refl, sym}
use mathlib.Core.List.{List, [], ◌∷◌}
use lib.ListN.{get_or}
use Rattle.ground.specs.Choice.{every}

pub each : (l : List Bool) → every l ≡ true → (i : ℕ) → get_or l i true ≡ true
unfolding every
each [] e i = refl
each (true ∷ l) e zero = refl
each (true ∷ l) e (suc i) = each l e i
each (false ∷ l) e zero = e
each (false ∷ l) e (suc i) = absurd (false≢true e)

pub one_fails : (l : List Bool) (i : ℕ) → get_or l i true ≡ false → every l ≡ false
unfolding every
one_fails [] i e = e
one_fails (false ∷ l) i e = refl
one_fails (true ∷ l) zero e = absurd (false≢true (sym e))
one_fails (true ∷ l) (suc i) e = one_fails l i e

pub and_left : (a b : Bool) → (a && b) ≡ true → a ≡ true
and_left true b h = refl
and_left false b h = h

pub and_right : (a b : Bool) → (a && b) ≡ true → b ≡ true
and_right true b h = h
and_right false b h = let z : ◌≡◌ {A = Bool} true false = sym h in cc
