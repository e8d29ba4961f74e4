-- The card value as a row of 35 numbers: 0 to 2 are for an answer, 3 to 24 are the card's as the A line of oracle/TRIAL.md shows them, the rest are
-- what it does not show. A stride stands twice: 23 as it is shown, which is 0 where no sectors move, and 34 as a transfer that becomes one of sectors gets it,
-- which is 1 then.
use Rattle.std.specs.Prelude.{ℕ, ◌+◌, ◌*◌, ◌/◌, ◌%◌, Bool, true, false, List, set, replicate}
use Rattle.maps.specs.declared.Mode.{Mode}
use Rattle.maps.specs.declared.Mode.TheVariants.{PcCard, TrueIde}
use Rattle.registers.specs.declared.Control.{Control}
use Rattle.registers.specs.declared.Half.{Half}
use Rattle.registers.specs.declared.Half.TheVariants.{Nothing, Low, High}
use Rattle.registers.specs.declared.Load.{Load}
use Rattle.registers.specs.declared.Load.TheVariants.{Sectors, Buffer}
use Rattle.registers.specs.declared.Made.{Made}
use Rattle.registers.specs.declared.Phase.{Phase}
use Rattle.registers.specs.declared.Phase.TheVariants.{Idle, DataIn, DataOut}
use Rattle.registers.specs.declared.Registers.{Registers}
use Rattle.registers.specs.declared.State.{State}
use Rattle.registers.specs.declared.Transfer.{Transfer}
use Rattle.card.specs.declared.Card.{Card}

abbrev pub one_of : Bool → ℕ
one_of true = 1
one_of false = 0

abbrev pub mode_number : Mode → ℕ
mode_number PcCard = 0
mode_number TrueIde = 1

abbrev pub half_number : Half → ℕ
half_number Nothing = 0
half_number Low = 1
half_number High = 2

abbrev pub with_registers : List ℕ → Registers → List ℕ
with_registers l r =
    set (set (set (set (set (set (set l 3 r.status) 4 r.error) 5 r.count) 6 r.address.sector) 7 r.address.low) 8 r.address.high) 9 r.address.head

-- Configuration Option and its two parts, Device Control and its two bits
abbrev pub with_option : List ℕ → ℕ → Control → List ℕ
with_option l o k =
    set (set (set (set (set (set l 10 o) 11 (4 * one_of k.held + 2 * one_of k.masked)) 26 (o % 128)) 27 (o / 128)) 28 (one_of k.held)) 29 (one_of k.masked)

abbrev pub with_made : List ℕ → Made → List ℕ
with_made l m =
    set (set (set (set l 30 m.default.cylinders) 31 m.default.heads) 32 m.default.sectors) 33 (mode_number m.mode)

abbrev pub state_row : State → List ℕ
state_row s =
    with_option
    (with_registers
    (set (set (set (set (set (set (set (with_made (set (replicate 35 0) 34 1) s.made) 12 s.code) 13 (one_of s.interrupt)) 14 s.current.cylinders) 15 s.current.heads) 16 s.current.sectors) 21 s.bad) 22 s.block)
    s.registers)
    s.option
    s.control

abbrev pub with_load : List ℕ → Load → List ℕ
with_load l (Sectors left pace) = set (set (set (set (set l 20 left) 23 pace.stride) 24 pace.place) 25 1) 34 pace.stride
with_load l Buffer = l

abbrev pub with_transfer : List ℕ → ℕ → Transfer → List ℕ
with_transfer l phase t = with_load (set (set (set l 17 phase) 18 (half_number t.half)) 19 t.words) t.load

abbrev pub with_phase : List ℕ → Phase → List ℕ
with_phase l Idle = l
with_phase l (DataIn t) = with_transfer l 1 t
with_phase l (DataOut t) = with_transfer l 2 t

unfoldable pub row_of : Card → List ℕ
row_of c = with_phase (state_row c.state) c.phase
