-- The card's own tests say what 01's words say: rows 8, 7 and 9, and for row 6 which offsets name something.
use Prim.Native.Nat.{ℕ}
use mathlib.Core.Path.{◌≡◌, refl}
use mathlib.Core.Bool.{Bool, true, false, not, ◌&&◌, ◌||◌}
use mathlib.Core.List.{List, [], ◌∷◌}
use lib.Dec.{eqb, ltb}
use lib.ListN.{drop}
use native.Mathlib.Omega.{arith}
use borrow.Author.Tests.{eqb-true, ne_eqb}
use Rattle.ground.specs.Choice.{pick}
use Rattle.ground.specs.Tables.{Numbered, lookup}
use Rattle.ground.proofs.Picks.{pick_same}
use Rattle.maps.specs.declared.Access.{Access}
use Rattle.maps.specs.declared.Mode.{Mode}
use Rattle.maps.specs.declared.Mode.TheVariants.{PcCard, TrueIde}
use Rattle.maps.specs.declared.Register.{Register}
use Rattle.maps.specs.declared.Target.TheVariants.{Named}
use Rattle.maps.specs.declared.Place.{Place}
use Rattle.maps.specs.declared.Place.TheVariants.{Nothing, Bytes}
use Rattle.maps.specs.Spaces.{card_answers, answers_at}
use Rattle.maps.specs.Places.{register_table}
use Rattle.maps.specs.Rows.{misfits}
use Rattle.registers.specs.State.{sreset_in}
use Rattle.card.specs.Access.{held_away}
use Rattle.card.specs.Rows.{at_option, among, answering, unfit}

-- ---- row 8
away_by : (held attribute option : Bool) → pick held (pick attribute (not option) true) false ≡ (held && not (attribute && option))
away_by true true option = refl
away_by true false option = refl
away_by false attribute option = refl

pub away_is : (option : ℕ) (a : Access) → held_away option a ≡ (sreset_in option && not (at_option a.space a.address))
unfolding held_away
away_is option a = away_by (sreset_in option) (eqb a.space 0) (eqb a.address 0x200)

-- ---- row 7
ide_by : (zero one two three : Bool) → (zero ≡ true → three ≡ false) → (one ≡ true → three ≡ false) → (two ≡ true → three ≡ false) →
    three ≡ pick zero false (pick one false (pick two false (pick three true false)))
ide_by true one two three p q r = p refl
ide_by false true two three p q r = q refl
ide_by false false true three p q r = r refl
ide_by false false false true p q r = refl
ide_by false false false false p q r = refl

pub answering_is : (space : ℕ) (mode : Mode) (index : ℕ) → answers_at space mode index ≡ answering space mode index
unfolding answers_at card_answers
answering_is space PcCard index = rw (pick_same (eqb space 3) false)
answering_is space TrueIde index =
    ide_by (eqb space 0) (eqb space 1) (eqb space 2) (eqb space 3)
    (λ p. ne_eqb space 3 (λ e. omega (arith, eqb-true space 0 p)))
    (λ p. ne_eqb space 3 (λ e. omega (arith, eqb-true space 1 p)))
    (λ p. ne_eqb space 3 (λ e. omega (arith, eqb-true space 2 p)))

-- ---- row 9
unfit_by : (one two even write big : Bool) → (one ≡ true → two ≡ true → ⊥) →
    pick one (write && big) (pick two (not even) true) ≡ (not (one || two) || (two && not even) || (one && write && big))
unfit_by true true even write big n = absurd (n refl refl)
unfit_by true false even write big n = refl
unfit_by false true true write big n = refl
unfit_by false true false write big n = refl
unfit_by false false even write big n = refl

pub unfit_is : (even : Bool) (a : Access) → misfits even a ≡ unfit even a.width a.write a.value
unfolding misfits
unfit_is even a =
    unfit_by (eqb a.width 1) (eqb a.width 2) even a.write (ltb 255 a.value) (λ p q. omega (arith, eqb-true a.width 1 p, eqb-true a.width 2 q))

-- ---- row 6: a place and whether its offset is listed are found by the same tests
abbrev pub registers : List (Numbered Place)
registers = drop 3 register_table

abbrev pub register_numbers : List ℕ
register_numbers = 1 ∷ 0xD ∷ 2 ∷ 3 ∷ 4 ∷ 5 ∷ 6 ∷ 7 ∷ 0xE ∷ 0xF ∷ []

module _ (P : Place → Bool → Type 0) where
  by_register : (t : Bool) (r : Register) (p : Place) (listed : Bool) → P (Bytes (Named r)) true → P p listed → P (pick t (Bytes (Named r)) p) (pick t true listed)
  by_register true r p listed x y = x
  by_register false r p listed x y = y

  -- of the registers' rows, in 01's order
  pub registers_by : (o : ℕ) → ((r : Register) → P (Bytes (Named r)) true) → P Nothing false → P (lookup registers o Nothing) (among o register_numbers)
  registers_by o x none =
      by_register (eqb o 1) _ _ _ (x _)
      (by_register (eqb o 0xD) _ _ _ (x _)
      (by_register (eqb o 2) _ _ _ (x _)
      (by_register (eqb o 3) _ _ _ (x _)
      (by_register (eqb o 4) _ _ _ (x _)
      (by_register (eqb o 5) _ _ _ (x _)
      (by_register (eqb o 6) _ _ _ (x _)
      (by_register (eqb o 7) _ _ _ (x _)
      (by_register (eqb o 0xE) _ _ _ (x _)
      (by_register (eqb o 0xF) _ _ _ (x _) none)))))))))
