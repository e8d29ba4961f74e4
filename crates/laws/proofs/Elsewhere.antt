-- What a write can mean that goes neither to offset E nor to attribute 200H, in whatever space: a refusal, the data port, or one of the other registers.
use Rattle.std.proofs.Common.{Some, None}
use Prim.Native.Nat.{ℕ}
use mathlib.Core.Path.{◌≡◌, refl, ap}
use mathlib.Core.Bool.{Bool, true, false, ◌&&◌}
use lib.Dec.{eqb}
use borrow.Author.Tests.{eqb-true, eqb-false}
use Rattle.ground.specs.Choice.{pick}
use Rattle.ground.proofs.Tables.{lookup-elim}
use Rattle.answers.specs.declared.Refusal.{Refusal}
use Rattle.maps.specs.declared.Mode.{Mode}
use Rattle.maps.specs.declared.Port.TheVariants.{Even, Word}
use Rattle.maps.specs.declared.Target.{Target}
use Rattle.maps.specs.declared.Target.TheVariants.{Tuple, Option, Named, Data}
use Rattle.maps.specs.declared.Place.{Place}
use Rattle.maps.specs.declared.Place.TheVariants.{Silent, Nothing, Bytes, EvenData}
use Rattle.maps.specs.Spaces.{answers_at}
use Rattle.maps.specs.Offsets.{Offset, offset_at}
use Rattle.maps.specs.Places.{register_table, register_place, offset_place}
use Rattle.maps.specs.Rows.{moved, stands_as, stands_at, Standing}
use Rattle.maps.proofs.Standings.{stands_elim}
use Rattle.maps.proofs.SameOffset.{by_offset}
use Rattle.maps.proofs.SixFirst.{read_only}
use Rattle.registers.specs.State.{index_in}
use Rattle.registers.specs.Machine.{Machine}
use Rattle.card.specs.declared.Meaning.{Meaning}
use Rattle.card.specs.Access.{Asked, targeted, standing, meaning}
use Rattle.card.specs.Rows.{at_option}
use Rattle.kept.proofs.Decided.{decided-elim, meaning-elim}
use Rattle.laws.specs.Holds.{lost_in_hold, offset_of}

-- a register but that of offset E, or the data port
abbrev pub loses : Target → Bool
loses (Tuple n) = false
loses Option = false
loses (Named r) = lost_in_hold r
loses (Data port) = true

-- at every offset but E
abbrev loses_at : Place → Bool
loses_at Silent = true
loses_at Nothing = true
loses_at (Bytes t) = loses t
loses_at EvenData = true

register_loses : (o : ℕ) → (o ≡ 0xE → ⊥) → loses_at (register_place o) ≡ true
unfolding register_place
register_loses o n =
    lookup-elim (λ (q : Place). loses_at q ≡ true) register_table o Nothing
    (λ e. refl, (λ e. refl, (λ e. refl, (λ e. refl, (λ e. refl, (λ e. refl, (λ e. refl, (λ e. refl, (λ e. refl, (λ e. refl, (λ e. refl, (λ e. absurd (n (eqb-true o 0xE e)), (λ e. refl, tt)))))))))))))
    refl

-- what holds of every refusal, and of a register but that of offset E and the data port
module _ (P : Meaning → Type 0) (a : Asked) (f : (r : Refusal) → P (Meaning.Refused r)) (g : (t : Target) → loses t ≡ true → P (targeted t a)) where
  moved-elim : (p : Place) → loses_at p ≡ true → P (standing (moved p a.access.width) a)
  moved-elim Silent l = f _
  moved-elim Nothing l = f _
  moved-elim (Bytes t) l = g t l
  moved-elim EvenData l = g (Data (pick (eqb a.access.width 2) Word Even)) refl

  offset-elim : (o : Offset) → (o ≡ Some 0xE → ⊥) → P (standing (stands_as (offset_place o) a.access) a)
  offset-elim (Some o) n =
      stands_elim (λ (x : Standing). P (standing x a)) (register_place o) a.access (f _) (f _) (f _) (f _)
      (λ s u m z. moved-elim (register_place o) (register_loses o (λ e. n (ap (λ (k : ℕ). Some k) e))))
  offset-elim None n = f _

  -- in attribute memory, and by the offset in every other space
  space_elim : (attribute : Bool) (mode : Mode) (index : ℕ) → eqb a.access.space 0 ≡ attribute → answers_at a.access.space mode index ≡ true → a.access.write ≡ true →
      (offset_at a.access.space index a.access.address ≡ Some 0xE → ⊥) → (attribute && eqb a.access.address 0x200) ≡ false → P (standing (stands_at mode index a.access) a)
  space_elim true mode index z e w n b = rw (read_only mode index a.access e (eqb-true _ _ z) w (eqb-false _ _ b)) (f _)
  space_elim false mode index z e w n b = rw (by_offset mode index a.access e (eqb-false _ _ z)) (offset-elim (offset_at a.access.space index a.access.address) n)

pub elsewhere-elim : (P : Meaning → Type 0) (m : Machine) (a : Asked) → a.access.write ≡ true → (offset_of m a ≡ Some 0xE → ⊥) → at_option a.access.space a.access.address ≡ false →
    ((r : Refusal) → P (Meaning.Refused r)) → ((t : Target) → loses t ≡ true → P (targeted t a)) → P (meaning m a)
elsewhere-elim P m a w n b f g =
    meaning-elim P m a (f _) (f _) (f _) (f _)
    (λ k s u t. decided-elim P m.state a (f _) (f _)
    (λ h e. space_elim P a f g (eqb a.access.space 0) m.state.made.mode (index_in m.state.option) refl e w n b))
