-- The byte writes that the two resets' methods stand for: 01, "Maps".
use Rattle.std.specs.Prelude.{ℕ, ◌≡◌, Bool, true, List, [], ◌∷◌, eqb, leb, Ok}
use Rattle.ground.specs.Choice.{pick}
use Rattle.ground.specs.Rows.{When, Unless, first_of}
use Rattle.answers.specs.declared.Refusal.TheVariants.{SpaceSilent, HeldBySreset, IndexAboveThree}
use Rattle.maps.specs.declared.Mode.{Mode}
use Rattle.maps.specs.declared.Mode.TheVariants.{PcCard, TrueIde}
use Rattle.maps.specs.declared.Register.TheVariants.{AlternateControl}
use Rattle.maps.specs.declared.Target.TheVariants.{Named}
use Rattle.maps.specs.Rows.{stands_at}
use Rattle.registers.specs.declared.State.{State}
use Rattle.card.specs.declared.Meaning.{Meaning}
use Rattle.card.specs.declared.Meaning.TheVariants.{WriteOption, WriteRegister}
use Rattle.card.specs.Access.{Asked, asked_with}
use Rattle.card.specs.Rows.{mode0}
use Rattle.laws.specs.Bits.{index_bits}

-- "Attribute: … 200H the Configuration Option Register"
abbrev pub option_access : ℕ → List ℕ → Asked
option_access v tuples = asked_with (record { space = 0; width = 1; address = 0x200; value = v; write = true }) tuples

-- where Device Control, offset E, stands in the map of a mode and an index: memory or I/O EH, "3F6H/376H is offset E", True IDE 16H
unfoldable pub control_space : Mode → ℕ → ℕ
control_space PcCard index = pick (eqb index 0) 1 2
control_space TrueIde index = 3

unfoldable pub control_address : Mode → ℕ → ℕ
control_address PcCard index = pick (eqb index 2) 0x3F6 (pick (eqb index 3) 0x376 0xE)
control_address TrueIde index = 0x16

abbrev pub control_access : ℕ → State → List ℕ → Asked
control_access v s tuples =
    let index = index_bits s.option in
    asked_with (record { space = control_space s.made.mode index; width = 1; address = control_address s.made.mode index; value = v; write = true }) tuples

-- what the methods mean to a well-made card: 7 in True IDE mode, where attribute memory does not answer, 10, else the write; 8 while SRESET holds, else the write
abbrev pub option_meaning : Mode → ℕ → Meaning
option_meaning mode v = first_of (Unless (mode0 mode) SpaceSilent ∷ Unless (leb (index_bits v) 3) IndexAboveThree ∷ []) Meaning.Refused (WriteOption v)

abbrev pub control_meaning : Bool → ℕ → Meaning
control_meaning sreset v = first_of (When sreset HeldBySreset ∷ []) Meaning.Refused (WriteRegister AlternateControl v)

-- a byte write that reaches Device Control, were the card not held by SRESET
pub record Reaches (s : State) (a : Asked) : Type 0 where
  pub write : a.access.write ≡ true
  pub stands : stands_at s.made.mode (index_bits s.option) a.access ≡ Ok (Named AlternateControl)
