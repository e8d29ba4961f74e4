-- A card of a row of 35 numbers (Rows.antt), and a card with one field set.
use Rattle.std.specs.Prelude.{ℕ, ◌+◌, ◌*◌, ◌%◌, Bool, true, List, [], ◌∷◌, eqb, ltb, get_or, set}
use Rattle.ground.specs.Choice.{pick}
use Rattle.registers.specs.declared.Half.{Half}
use Rattle.registers.specs.declared.Half.TheVariants.{Nothing, Low, High}
use Rattle.registers.specs.declared.Pace.{Pace}
use Rattle.registers.specs.declared.Load.{Load}
use Rattle.registers.specs.declared.Load.TheVariants.{Sectors, Buffer}
use Rattle.registers.specs.declared.Made.{Made}
use Rattle.registers.specs.declared.Phase.{Phase}
use Rattle.registers.specs.declared.Phase.TheVariants.{Idle, DataIn, DataOut}
use Rattle.registers.specs.declared.Registers.{Registers}
use Rattle.registers.specs.declared.State.{State}
use Rattle.registers.specs.declared.Transfer.{Transfer}
use Rattle.card.specs.declared.Card.{Card}
use Rattle.card.specs.Opening.{mode_of}
use Rattle.trial_cards.specs.Rows.{row_of}

abbrev pub half_of : ℕ → Half
half_of n = pick (eqb n 0) Nothing (pick (eqb n 1) Low High)

abbrev pub load_of : ℕ → ℕ → Pace → Load
load_of n left pace = pick (eqb n 0) Buffer (Sectors left pace)

abbrev pub made_of : List ℕ → Made
made_of l = record { mode = mode_of (get_or l 33 0); default = record { cylinders = get_or l 30 0; heads = get_or l 31 0; sectors = get_or l 32 0 } }

abbrev pub registers_of : List ℕ → Registers
registers_of l =
    record {
      status = get_or l 3 0 % 256;
      error = get_or l 4 0 % 256;
      count = get_or l 5 0 % 256;
      address = record { sector = get_or l 6 0 % 256; low = get_or l 7 0 % 256; high = get_or l 8 0 % 256; head = get_or l 9 0 % 256 };
    }

abbrev pub state_of : List ℕ → State
state_of l =
    record {
      made = made_of l;
      current = record { cylinders = get_or l 14 0; heads = get_or l 15 0; sectors = get_or l 16 0 };
      registers = registers_of l;
      option = get_or l 26 0 % 128 + 128 * (get_or l 27 0 % 2);
      control = record { held = eqb (get_or l 28 0 % 2) 1; masked = eqb (get_or l 29 0 % 2) 1 };
      interrupt = eqb (get_or l 13 0 % 2) 1;
      code = get_or l 12 0 % 256;
      bad = get_or l 21 0;
      block = get_or l 22 0;
    }

abbrev pub pace_of : List ℕ → Pace
pace_of l = record { stride = get_or l 34 0; place = get_or l 24 0 }

abbrev pub transfer_of : List ℕ → Transfer
transfer_of l = record { load = load_of (get_or l 25 0) (get_or l 20 0) (pace_of l); half = half_of (get_or l 18 0); words = get_or l 19 0 }

abbrev pub phase_with : ℕ → Transfer → Phase
phase_with n t = pick (eqb n 0) Idle (pick (eqb n 1) (DataIn t) (DataOut t))

abbrev pub phase_of : List ℕ → Phase
phase_of l = phase_with (get_or l 17 0) (transfer_of l)

unfoldable pub card_from_row : List ℕ → List ℕ → Card
card_from_row l buffer = record { phase = phase_of l; state = state_of l; buffer = buffer }

-- ---- kind 4

-- where the row has each field of oracle/TRIAL.md, from field 0, which is none
abbrev pub places : List ℕ
places = 0 ∷ 30 ∷ 31 ∷ 32 ∷ 14 ∷ 15 ∷ 16 ∷ 26 ∷ 27 ∷ 28 ∷ 29 ∷ 13 ∷ 3 ∷ 4 ∷ 5 ∷ 6 ∷ 7 ∷ 8 ∷ 9 ∷ 12 ∷ 18 ∷ 19 ∷ 20 ∷ 33 ∷ 17 ∷ 25 ∷ 21 ∷ 22 ∷ 34 ∷ 24 ∷ []

-- a half word and a phase are at most 2, a mode and what a transfer moves at most 1
abbrev pub taken_of : ℕ → ℕ → Bool
taken_of field value =
    pick (eqb field 20) (ltb value 3) (pick (eqb field 24) (ltb value 3) (pick (eqb field 23) (ltb value 2) (pick (eqb field 25) (ltb value 2) true)))

-- 0, which is not the card's, if nothing is to be done
abbrev pub place_of : ℕ → ℕ → ℕ
place_of field value = pick (taken_of field value) (get_or places field 0) 0

abbrev pub with_number : List ℕ → ℕ → ℕ → List ℕ
with_number l at value = pick (ltb at 35) (set l at value) l

unfoldable pub broken_of : Card → ℕ → ℕ → Card
broken_of c field value = card_from_row (with_number (row_of c) (place_of field value) value) c.buffer
