-- Laws of a choice: what holds of both branches, each under its test, holds of the choice; what a choice tells of its test.
use mathlib.Core.Bool.{Bool, true, false, not, ◌||◌, true≢false, false≢true}
use mathlib.Core.Path.{◌≡◌, refl, ap}
use Rattle.ground.specs.Choice.{pick}

pub pick-elim {ℓ} : {A : Type ℓ} (P : A → Type 0) (b : Bool) (x y : A) → (b ≡ true → P x) → (b ≡ false → P y) → P (pick b x y)
pick-elim P true x y f g = f refl
pick-elim P false x y f g = g refl

-- the same of what turns on a test in more than one place
pub test_elim : (P : Bool → Type 0) (b : Bool) → (b ≡ true → P true) → (b ≡ false → P false) → P b
test_elim P true f g = f refl
test_elim P false f g = g refl

pub pick_same {ℓ} : {A : Type ℓ} (b : Bool) (x : A) → pick b x x ≡ x
pick_same true x = refl
pick_same false x = refl

-- what is done to a choice is done to both
pub pick_of {ℓ κ} : {A : Type ℓ} {B : Type κ} (f : A → B) (b : Bool) (x y : A) → f (pick b x y) ≡ pick b (f x) (f y)
pick_of f true x y = refl
pick_of f false x y = refl

-- a choice that came out as it can in one way only tells its test
pub neither : (t u : Bool) → pick t true u ≡ false → (t ≡ false) × (u ≡ false)
neither true u e = absurd (true≢false e)
neither false u e = (refl, e)

pub both_of : (t u : Bool) → pick t u false ≡ true → (t ≡ true) × (u ≡ true)
both_of true u e = (refl, e)
both_of false u e = absurd (false≢true e)

pub not_first : (t u : Bool) → pick t false u ≡ true → (t ≡ false) × (u ≡ true)
not_first true u e = absurd (false≢true e)
not_first false u e = (refl, e)

-- a test of a negation tells of what is negated
pub un_not : (b t : Bool) → not b ≡ t → b ≡ not t
un_not true t p = ap not p
un_not false t p = ap not p

pub pick-not : {A : Type 0} (t : Bool) (x y : A) → pick (not t) x y ≡ pick t y x
pick-not true x y = refl
pick-not false x y = refl

-- five tests, one of which must hold: by "or", or one after the other
pub any_of : (a b c d e : Bool) → (a || (b || (c || (d || e)))) ≡ pick a true (pick b true (pick c true (pick d true e)))
any_of true b c d e = refl
any_of false true c d e = refl
any_of false false true d e = refl
any_of false false false true e = refl
any_of false false false false e = refl
