-- What an access can mean that reaches an offset of the card's map: a refusal, or what stands there.
use Rattle.std.proofs.Common.{Some}
use Prim.Native.Nat.{ℕ, zero, suc}
use mathlib.Core.Path.{◌≡◌, sym, subst}
use mathlib.Core.Bool.{true}
use native.Mathlib.Omega.{arith}
use borrow.Author.Tests.{ne_eqb}
use Rattle.answers.specs.declared.Refusal.{Refusal}
use Rattle.maps.specs.declared.Place.{Place}
use Rattle.maps.specs.Spaces.{answers_at}
use Rattle.maps.specs.Offsets.{offset_at}
use Rattle.maps.specs.Places.{register_place, map_place, place_at}
use Rattle.maps.specs.Rows.{moved, stands_at, Standing}
use Rattle.maps.proofs.Standings.{stands_elim}
use Rattle.registers.specs.State.{index_in}
use Rattle.registers.specs.Machine.{Machine}
use Rattle.registers.specs.WellMade.{well_made}
use Rattle.card.specs.declared.Meaning.{Meaning}
use Rattle.card.specs.Access.{Asked, standing, place_in, meaning}
use Rattle.kept.proofs.Decided.{decided-elim, meaning-elim}
use Rattle.laws.specs.Holds.{offset_of}

-- no offset is in attribute memory
pub not_attribute : (space index address o : ℕ) → offset_at space index address ≡ Some o → space ≡ 0 → ⊥
unfolding offset_at
not_attribute zero index address o e z = let x : ◌≡◌ {A = ℕ} 0 1 = cc in omega arith
not_attribute (suc n) index address o e z = omega arith

pub place_reached : (m : Machine) (a : Asked) (o : ℕ) → offset_of m a ≡ Some o → answers_at a.access.space m.state.made.mode (index_in m.state.option) ≡ true →
    place_in m.state a ≡ register_place o
unfolding place_at map_place
place_reached m a o p e = rw (e, ne_eqb a.access.space 0 (not_attribute a.access.space (index_in m.state.option) a.access.address o p), p)

pub reached_elim : (P : Meaning → Type 0) (m : Machine) (a : Asked) (o : ℕ) → offset_of m a ≡ Some o → ((r : Refusal) → P (Meaning.Refused r)) →
    (well_made m.phase m.state ≡ true → P (standing (moved (register_place o) a.access.width) a)) → P (meaning m a)
unfolding stands_at
reached_elim P m a o p f g =
    meaning-elim P m a (f _) (f _) (f _) (f _)
    (λ w s k t. decided-elim P m.state a (f _) (f _)
    (λ h e. stands_elim (λ (x : Standing). P (standing x a)) (place_in m.state a) a.access (f _) (f _) (f _) (f _)
    (λ s u n z. subst (λ (q : Place). P (standing (moved q a.access.width) a)) (sym (place_reached m a o p e)) (g w))))
