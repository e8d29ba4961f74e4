-- Rows 7, 6, 9, 10 and 11: what stands at an address answers by the first of them that applies, by 01's tests.
use Rattle.std.proofs.Common.{Ok, Some, None}
use Prim.Native.Nat.{ℕ, ◌%◌, ◌/◌}
use mathlib.Core.Path.{◌≡◌, refl, sym, subst, ap, ◌∙◌}
use mathlib.Core.Bool.{Bool, true, false, not, ◌&&◌, ◌||◌}
use mathlib.Core.List.{List, [], ◌∷◌}
use lib.Dec.{eqb, leb}
use native.Mathlib.Omega.{arith}
use borrow.Author.Tests.{eqb-true, leb-true}
use Rattle.ground.specs.Choice.{pick}
use Rattle.ground.specs.Rows.{Row, When, Unless, first_of}
use Rattle.ground.specs.Tables.{lookup}
use Rattle.answers.specs.declared.Refusal.{Refusal}
use Rattle.answers.specs.declared.Refusal.TheVariants.{SpaceSilent, NoRegister, WidthOrValue, IndexAboveThree, HalfMoved}
use Rattle.answers.specs.Answers.{number_of}
use Rattle.maps.specs.declared.Mode.{Mode}
use Rattle.maps.specs.declared.Port.{Port}
use Rattle.maps.specs.declared.Register.{Register}
use Rattle.maps.specs.declared.Target.TheVariants.{Tuple, Option, Data}
use Rattle.maps.specs.declared.Place.{Place}
use Rattle.maps.specs.declared.Place.TheVariants.{Silent, Nothing, Bytes, EvenData}
use Rattle.maps.specs.Spaces.{answers_at}
use Rattle.maps.specs.Offsets.{Offset, offset_at}
use Rattle.maps.specs.Places.{register_place, offset_place, attribute_place, map_place, place_at}
use Rattle.maps.specs.Rows.{misfits, above_three, place_table, moved}
use Rattle.registers.specs.Machine.{Machine}
use Rattle.card.specs.declared.Meaning.TheVariants.{ReadOption, WriteOption, ReadRegister, WriteRegister}
use Rattle.card.specs.Access.{Asked, standing}
use Rattle.card.specs.Perform.{perform}
use Rattle.card.specs.Rows.{at_option, among, offset_in, register_offsets, at_even_data, answering, no_register, unfit, index_above, moved_so_far, high_moved, one_moved, half_gone}
use Rattle.card.proofs.RowTests.{answering_is, unfit_is, registers, register_numbers, registers_by}
use Rattle.card.proofs.HalfRow.{number_after, eleven_if, data_number}

module _ (a : Asked) (m : Machine) where
  -- the number that a place comes to, and 01's four rows
  abbrev pub place_number : Place → ℕ
  place_number p = first_of (place_table p a.access) number_of (number_after (standing (moved p a.access.width) a) m)

  abbrev four_rows : Bool → Bool → Bool → Bool → List (Row Refusal)
  four_rows six nine ten eleven = When six NoRegister ∷ When nine WidthOrValue ∷ When ten IndexAboveThree ∷ When eleven HalfMoved ∷ []

  abbrev Told : Bool → Bool → Bool → Bool → Place → Type 0
  Told six nine ten eleven p = place_number p ≡ first_of (four_rows six nine ten eleven) number_of 0

  -- row 9, by the card's test and by 01's
  abbrev nine : Bool → Bool
  nine even = unfit even a.access.width a.access.write a.access.value

  by_nine : (even : Bool) (n k : ℕ) → n ≡ k → pick (misfits even a.access) 9 n ≡ pick (nine even) 9 k
  by_nine even n k e = ap (λ (t : Bool). pick t 9 n) (unfit_is even a.access) ∙ ap (pick (nine even) 9) e

  -- ---- attribute memory
  option_number : (ten write : Bool) (v : ℕ) → pick ten 10 (number_after (pick write (WriteOption v) ReadOption) m) ≡ pick ten 10 0
  unfolding perform
  option_number true write v = refl
  option_number false true v = refl
  option_number false false v = refl

  -- below 200H, at an even address, and at 200H
  attribute_told : (low even option : Bool) (number : ℕ) → (low ≡ true → option ≡ true → ⊥) →
      Told (not ((low && even) || option || false) || ((low && even) && a.access.write)) (nine false) (option && above_three a.access) false
      (pick low (pick even (Bytes (Tuple number)) Nothing) (pick option (Bytes Option) Nothing))
  unfolding perform
  attribute_told true even true number n = absurd (n refl refl)
  attribute_told true true false number n = ap (pick a.access.write 6) (by_nine false 0 0 refl)
  attribute_told true false false number n = refl
  attribute_told false even true number n = by_nine false _ _ (option_number (above_three a.access) a.access.write (a.access.value % 256))
  attribute_told false even false number n = refl

  -- ---- the offsets: what has moved of the word at hand
  abbrev high : Bool
  high = high_moved (moved_so_far m a.access.write)

  abbrev one : Bool
  one = one_moved (moved_so_far m a.access.write)

  or-none : (t : Bool) → eleven_if t ≡ eleven_if (t || false)
  or-none true = refl
  or-none false = refl

  even_number : (word : Bool) → number_after (standing (Ok (Data (pick word Port.Word Port.Even))) a) m ≡ eleven_if (word && one)
  even_number true = data_number Port.Word a m
  even_number false = data_number Port.Even a m

  odd_told : Told false (nine false) false (high || false) (Bytes (Data Port.Odd))
  odd_told = by_nine false _ _ (data_number Port.Odd a m ∙ or-none high)

  register_number : (write : Bool) (r : Register) (v : ℕ) → number_after (pick write (WriteRegister r v) (ReadRegister r)) m ≡ 0
  unfolding perform
  register_number true r v = refl
  register_number false r v = refl

  -- a register, or nothing, at an offset but 0, 8 and 9: listed or not
  registers_told : (o : ℕ) → Told (not (among o register_numbers) || false) (nine false) false false (lookup registers o Nothing)
  registers_told o =
      registers_by (λ (p : Place) (listed : Bool). Told (not listed || false) (nine false) false false p) o
      (λ r. by_nine false _ _ (register_number a.access.write r (a.access.value % 256)))
      refl

  -- 0, 8 and 9 before them
  offset_by : (zero eight nin listed : Bool) (p : Place) → (zero ≡ true → nin ≡ true → ⊥) → (eight ≡ true → nin ≡ true → ⊥) →
      Told (not listed || false) (nine false) false false p →
      Told (not (pick zero true (pick eight true (pick nin true listed))) || false) (nine (pick zero true (pick eight true false))) false
      ((pick nin true false && high) || (pick zero true (pick eight true false) && eqb a.access.width 2 && one))
      (pick zero EvenData (pick eight EvenData (pick nin (Bytes (Data Port.Odd)) p)))
  offset_by true eight true listed p x y e = absurd (x refl refl)
  offset_by true eight false listed p x y e = by_nine true _ _ (even_number (eqb a.access.width 2))
  offset_by false true true listed p x y e = absurd (y refl refl)
  offset_by false true false listed p x y e = by_nine true _ _ (even_number (eqb a.access.width 2))
  offset_by false false true listed p x y e = odd_told
  offset_by false false false listed p x y e = e

  offset_told : (o : Offset) →
      Told (not (offset_in register_offsets o) || false) (nine (at_even_data o)) false (half_gone o a.access.width (moved_so_far m a.access.write)) (offset_place o)
  unfolding register_place
  offset_told (Some o) =
      offset_by (eqb o 0) (eqb o 8) (eqb o 9) (among o register_numbers) (lookup registers o Nothing)
      (λ p q. omega (arith, eqb-true o 0 p, eqb-true o 9 q))
      (λ p q. omega (arith, eqb-true o 8 p, eqb-true o 9 q))
      (registers_told o)
  offset_told None = refl

  -- ---- by the space
  abbrev rows_in : ℕ → ℕ → ℕ → List (Row Refusal)
  rows_in space index address =
      let o = offset_at space index address in
      four_rows (no_register space address o a.access.write) (nine (at_even_data o)) (at_option space address && index_above a.access.write a.access.value)
      (half_gone o a.access.width (moved_so_far m a.access.write))

  abbrev MapTold : ℕ → ℕ → ℕ → Type 0
  MapTold space index address = place_number (map_place space index address) ≡ first_of (rows_in space index address) number_of 0

  attribute_map : (index address : ℕ) → MapTold 0 index address
  unfolding map_place offset_at attribute_place above_three
  attribute_map index address =
      attribute_told (leb address 0x1FE) (eqb (address % 2) 0) (eqb address 0x200) (address / 2) (λ p q. omega (arith, leb-true address 0x1FE p, eqb-true address 0x200 q))

  by_space : (t : Bool) (space index address : ℕ) → eqb space 0 ≡ t → MapTold space index address
  unfolding map_place
  by_space true space index address e = subst (λ (n : ℕ). MapTold n index address) (sym (eqb-true space 0 e)) (attribute_map index address)
  by_space false space index address e = rw e (offset_told (offset_at space index address))

  -- row 7 before them
  by_answer : (t : Bool) (p : Place) (l : List (Row Refusal)) → place_number p ≡ first_of l number_of 0 → place_number (pick t p Silent) ≡ first_of (Unless t SpaceSilent ∷ l) number_of 0
  by_answer true p l e = e
  by_answer false p l e = refl

  pub place_told : (mode : Mode) (index : ℕ) →
      place_number (place_at mode index a.access)
      ≡ first_of (Unless (answering a.access.space mode index) SpaceSilent ∷ rows_in a.access.space index a.access.address) number_of 0
  unfolding place_at
  place_told mode index =
      rw (sym (answering_is a.access.space mode index))
      (by_answer (answers_at a.access.space mode index) (map_place a.access.space index a.access.address) (rows_in a.access.space index a.access.address)
      (by_space (eqb a.access.space 0) a.access.space index a.access.address refl))
