-- A promise of the shape `r ≡ d` determines the result: no second answer satisfies it.
use mathlib.Core.Path.{◌≡◌, sym, ap, ◌∙◌}
use Rattle.ground.specs.Left.{Left, leaving}

pub only_one {ℓ} : {A : Type ℓ} (d r s : A) → r ≡ d → s ≡ d → r ≡ s
only_one d r s p q = p ∙ sym q

-- two promises at once
pub only_both {ℓ κ} : {A : Type ℓ} {B : Type κ} (d r r' : A) (e s s' : B) → (r ≡ d) × (s ≡ e) → (r' ≡ d) × (s' ≡ e) → (r ≡ r') × (s ≡ s')
only_both d r r' e s s' p q = (only_one d r r' p.0 q.0, only_one e s s' p.1 q.1)

-- a promise that gives the outcome together with what was lent determines both
pub only_left : {R L : Type 0} (d : Left R L) (r r' : R) (l l' : L) → leaving r l ≡ d → leaving r' l' ≡ d → (r ≡ r') × (l ≡ l')
only_left {R} {L} d r r' l l' p q =
    let e = only_one d (leaving r l) (leaving r' l') p q in
    (ap (λ (k : Left R L). k.outcome) e, ap (λ (k : Left R L). k.next) e)
