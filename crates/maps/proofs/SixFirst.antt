-- 01, "Answers": 6 comes before 9 and 10: where nothing stands, or the tuples are written, no width and no value matters.
use Rattle.std.proofs.Common.{Err, None}
use Prim.Native.Nat.{ℕ, ◌%◌, ◌/◌}
use lib.Dec.{eqb, leb}
use mathlib.Core.Path.{◌≡◌, refl, ap, ◌∙◌}
use mathlib.Core.Bool.{true}
use borrow.Author.Tests.{eq-eqb, ne_eqb}
use Rattle.ground.proofs.Picks.{pick-elim}
use Rattle.answers.specs.declared.Refusal.TheVariants.{NoRegister}
use Rattle.maps.specs.declared.Access.{Access}
use Rattle.maps.specs.declared.Mode.{Mode}
use Rattle.maps.specs.declared.Target.TheVariants.{Tuple}
use Rattle.maps.specs.declared.Place.{Place}
use Rattle.maps.specs.declared.Place.TheVariants.{Nothing, Bytes}
use Rattle.maps.specs.Spaces.{answers_at}
use Rattle.maps.specs.Offsets.{Offset, offset_at}
use Rattle.maps.specs.Places.{register_place, offset_place, attribute_place, map_place, place_at}
use Rattle.maps.specs.Rows.{stands_as, stands_at}
use Rattle.maps.proofs.SameOffset.{by_offset}

-- of attribute memory only 200H is written
pub read_only : (mode : Mode) (index : ℕ) (a : Access) → answers_at a.space mode index ≡ true → a.space ≡ 0 → a.write ≡ true → (a.address ≡ 0x200 → ⊥) →
    stands_at mode index a ≡ Err NoRegister
unfolding stands_at place_at map_place attribute_place
read_only mode index a r z w n =
    simp (r, eq-eqb _ _ z)
    (pick-elim (λ (p : Place). stands_as p a ≡ Err NoRegister) (leb a.address 0x1FE) _ _
    (λ e. pick-elim (λ (p : Place). stands_as p a ≡ Err NoRegister) (eqb (a.address % 2) 0) (Bytes (Tuple (a.address / 2))) Nothing (λ f. rw w) (λ f. refl))
    (λ e. simp (ne_eqb _ _ n)))

-- an address that the map does not list
pub nowhere : (mode : Mode) (index : ℕ) (a : Access) → answers_at a.space mode index ≡ true → (a.space ≡ 0 → ⊥) → offset_at a.space index a.address ≡ None →
    stands_at mode index a ≡ Err NoRegister
nowhere mode index a r n e = by_offset mode index a r n ∙ ap (λ (o : Offset). stands_as (offset_place o) a) e

-- offsets A, B, C, in reads and writes
pub holes : (a : Access) →
    (stands_as (register_place 0xA) a ≡ Err NoRegister) × (stands_as (register_place 0xB) a ≡ Err NoRegister) × (stands_as (register_place 0xC) a ≡ Err NoRegister)
unfolding register_place
holes a = (refl, refl, refl)
