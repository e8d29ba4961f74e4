-- What is known of an access by what stands there: what a caller may rely on, and the only refusals that can come.
use Rattle.std.proofs.Common.{Ok, Err, Some, None}
use Prim.Native.Nat.{ℕ, ◌≤◌, ◌%◌, ◌/◌}
use native.Mathlib.Omega.{arith}
use lib.Dec.{eqb, leb}
use mathlib.Core.Path.{◌≡◌, refl, sym, subst, ◌∙◌}
use mathlib.Core.Bool.{Bool, true, false, not, ◌&&◌, ◌||◌, true≢false}
use borrow.Author.Tests.{eqb-true, eqb-false, leb-true, ltb-false}
use Rattle.ground.specs.Choice.{pick}
use Rattle.ground.proofs.Picks.{pick-elim, pick_same}
use Rattle.ground.proofs.Tables.{lookup-elim}
use Rattle.answers.specs.Answers.{number_of}
use Rattle.answers.specs.declared.Refusal.{Refusal}
use Rattle.answers.specs.declared.Refusal.TheVariants.{SpaceSilent, NoRegister, WidthOrValue, IndexAboveThree}
use Rattle.maps.specs.declared.Access.{Access}
use Rattle.maps.specs.declared.Mode.{Mode}
use Rattle.maps.specs.declared.Register.{Register}
use Rattle.maps.specs.declared.Port.TheVariants.{Even, Odd, Word}
use Rattle.maps.specs.declared.Target.TheVariants.{Tuple, Option, Named, Data}
use Rattle.maps.specs.declared.Place.{Place}
use Rattle.maps.specs.declared.Place.TheVariants.{Silent, Nothing, Bytes, EvenData}
use Rattle.maps.specs.Spaces.{answers_at}
use Rattle.maps.specs.Offsets.{Offset, offset_at}
use Rattle.maps.specs.Places.{register_table, register_place, offset_place, attribute_place, map_place, place_at}
use Rattle.maps.specs.Rows.{silent, unregistered, even_data, misfits, option, above_three, moved, stands_as, stands_at, Standing}

-- ---- what stands at a place, by its space

-- an offset names the even data address, the odd place, a register, or nothing
pub register_elim : (P : Place → Type 0) (offset : ℕ) → P EvenData → P (Bytes (Data Odd)) → ((r : Register) → P (Bytes (Named r))) → P Nothing → P (register_place offset)
unfolding register_place
register_elim P offset even odd r none =
    lookup-elim P register_table offset Nothing
    (λ e. even, (λ e. even, (λ e. odd, (λ e. r _, (λ e. r _, (λ e. r _, (λ e. r _, (λ e. r _, (λ e. r _, (λ e. r _, (λ e. r _, (λ e. r _, (λ e. r _, tt)))))))))))))
    none

abbrev PlaceKnown : ℕ → Place → Type 0
PlaceKnown space Silent = Unit {0}
PlaceKnown space Nothing = Unit {0}
PlaceKnown space (Bytes (Tuple number)) = (space ≡ 0) × (number ≤ 255)
PlaceKnown space (Bytes Option) = space ≡ 0
PlaceKnown space (Bytes (Named register)) = space ≡ 0 → ⊥
PlaceKnown space (Bytes (Data Even)) = ⊥
PlaceKnown space (Bytes (Data Odd)) = space ≡ 0 → ⊥
PlaceKnown space (Bytes (Data Word)) = ⊥
PlaceKnown space EvenData = space ≡ 0 → ⊥

attribute_known : (space address : ℕ) → space ≡ 0 → PlaceKnown space (attribute_place address)
unfolding attribute_place
attribute_known space address z =
    pick-elim (PlaceKnown space) (leb address 0x1FE) _ _
    (λ e. pick-elim (PlaceKnown space) (eqb (address % 2) 0) (Bytes (Tuple (address / 2))) Nothing
    (λ f. (z, let l : address ≤ 0x1FE = leb-true _ _ e in omega arith))
    (λ f. tt))
    (λ e. pick-elim (PlaceKnown space) (eqb address 0x200) (Bytes Option) Nothing (λ f. z) (λ f. tt))

offset_known : (o : Offset) (space : ℕ) → (space ≡ 0 → ⊥) → PlaceKnown space (offset_place o)
offset_known (Some o) space n = register_elim (PlaceKnown space) o n n (λ r. n) tt
offset_known None space n = tt

place_known : (mode : Mode) (index : ℕ) (a : Access) → PlaceKnown a.space (place_at mode index a)
unfolding place_at map_place
place_known mode index a =
    pick-elim (PlaceKnown a.space) (answers_at a.space mode index) _ _
    (λ e. pick-elim (PlaceKnown a.space) (eqb a.space 0) _ _
    (λ z. attribute_known a.space a.address (eqb-true _ _ z))
    (λ z. offset_known (offset_at a.space index a.address) a.space (eqb-false _ _ z)))
    (λ e. tt)

-- ---- what an access finds there

-- a byte access, its value a byte if it is a write
pub record Byte (a : Access) : Type 0 where
  pub one : a.width ≡ 1
  pub small : a.write ≡ true → a.value ≤ 255

-- rows 7, 6, 9 and 10 of the answers
abbrev pub of_maps : Refusal → Bool
of_maps r = eqb (number_of r) 7 || (eqb (number_of r) 6 || (eqb (number_of r) 9 || eqb (number_of r) 10))

abbrev pub Known : Access → Standing → Type 0
Known a (Ok (Tuple number)) = (a.space ≡ 0) × (number ≤ 255) × (a.write ≡ false) × Byte a
Known a (Ok Option) = (a.space ≡ 0) × (a.write ≡ true → a.value % 64 ≤ 3) × Byte a
Known a (Ok (Named register)) = (a.space ≡ 0 → ⊥) × Byte a
Known a (Ok (Data Even)) = (a.space ≡ 0 → ⊥) × Byte a
Known a (Ok (Data Odd)) = (a.space ≡ 0 → ⊥) × Byte a
Known a (Ok (Data Word)) = (a.space ≡ 0 → ⊥) × (a.width ≡ 2)
Known a (Err refusal) = of_maps refusal ≡ true

-- the rows in turn
pub stands_elim : (P : Standing → Type 0) (p : Place) (a : Access) →
    P (Err SpaceSilent) → P (Err NoRegister) → P (Err WidthOrValue) → P (Err IndexAboveThree) →
    (silent p ≡ false → unregistered p a.write ≡ false → misfits (even_data p) a ≡ false → (option p && above_three a) ≡ false → P (moved p a.width)) →
    P (stands_as p a)
stands_elim P p a seven six nine ten f =
    pick-elim P (silent p) _ _ (λ e. seven)
    (λ s. pick-elim P (unregistered p a.write) _ _ (λ e. six)
    (λ u. pick-elim P (misfits (even_data p) a) _ _ (λ e. nine)
    (λ m. pick-elim P (option p && above_three a) _ _ (λ e. ten) (f s u m))))

-- what is left when row 9 does not apply and no word is taken
byte_fits : (even : Bool) (a : Access) → pick (eqb a.width 2) (not even) true ≡ true → misfits even a ≡ false → Byte a
unfolding misfits
byte_fits even a one =
    pick-elim (λ (t : Bool). t ≡ false → Byte a) (eqb a.width 1) _ _
    (λ e f. record { one = eqb-true _ _ e; small = λ w. ltb-false 255 a.value (rw w at f) })
    (λ e f. absurd (true≢false (sym one ∙ f)))

single : (a : Access) → misfits false a ≡ false → Byte a
single a = byte_fits false a (pick_same (eqb a.width 2) true)

moved_known : (p : Place) (a : Access) → PlaceKnown a.space p →
    silent p ≡ false → unregistered p a.write ≡ false → misfits (even_data p) a ≡ false → (option p && above_three a) ≡ false → Known a (moved p a.width)
unfolding above_three
moved_known Silent a k s u m o = absurd (true≢false s)
moved_known Nothing a k s u m o = absurd (true≢false u)
moved_known (Bytes (Tuple number)) a k s u m o = (k.0, k.1, u, single a m)
moved_known (Bytes Option) a k s u m o = (k, λ w. ltb-false 3 (a.value % 64) (rw w at o), single a m)
moved_known (Bytes (Named register)) a k s u m o = (k, single a m)
moved_known (Bytes (Data Even)) a k s u m o = absurd k
moved_known (Bytes (Data Odd)) a k s u m o = (k, single a m)
moved_known (Bytes (Data Word)) a k s u m o = absurd k
moved_known EvenData a k s u m o =
    pick-elim (λ (p : _). Known a (Ok (Data p))) (eqb a.width 2) _ _
    (λ f. (k, eqb-true _ _ f))
    (λ f. (k, byte_fits true a (simp f) m))

pub stands_known : (mode : Mode) (index : ℕ) (a : Access) (s : Standing) → stands_at mode index a ≡ s → Known a s
unfolding stands_at
stands_known mode index a s e =
    subst (Known a) e (stands_elim (Known a) (place_at mode index a) a refl refl refl refl (moved_known (place_at mode index a) a (place_known mode index a)))

-- the Configuration Option Register stands in attribute memory only, and is written with a byte whose index is at most 3
pub option-written : (mode : Mode) (index : ℕ) (a : Access) → a.write ≡ true → stands_at mode index a ≡ Ok Option → (a.space ≡ 0) × (a.value % 64 ≤ 3) × (a.value ≤ 255)
option-written mode index a w e =
    let f = stands_known mode index a _ e in
    (f.0, f.1 w, f.2.small w)

pub option_space : (mode : Mode) (index : ℕ) (a : Access) → stands_at mode index a ≡ Ok Option → a.space ≡ 0
option_space mode index a e = (stands_known mode index a _ e).0

-- no other refusal comes from the maps
pub refused-rows : (mode : Mode) (index : ℕ) (a : Access) (r : Refusal) → stands_at mode index a ≡ Err r → of_maps r ≡ true
refused-rows mode index a r e = stands_known mode index a _ e
