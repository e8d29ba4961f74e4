-- The doors by value: a card goes in and comes back in the answer.
use Rattle.std.specs.Prelude.{ℕ, List, [], ◌∷◌, Ok, Err}
use Rattle.ground.specs.Left.{leaving}
use Rattle.ground.specs.Rows.{Row, When, Unless, first_of}
use Rattle.answers.specs.declared.Refusal.{Refusal}
use Rattle.answers.specs.declared.Refusal.TheVariants.{NotWellMade, SpaceSilent, IndexAboveThree, HeldBySreset}
use Rattle.maps.specs.Spaces.{answers_at}
use Rattle.registers.specs.declared.Core.{Core}
use Rattle.registers.specs.State.{line_of, sreset_in, index_in}
use Rattle.registers.specs.Machine.{Machine, core}
use Rattle.registers.specs.WellMade.{well_made, index_fits}
use Rattle.registers.specs.Resets.{control_written, option_core, option_buffer}
use Rattle.port.specs.Data.{Effect}
use Rattle.card.specs.declared.Card.{Card}
use Rattle.card.specs.declared.Answer.{Answer}
use Rattle.answers.specs.Answers.{Outcome}

-- a card with the store and the marks that are lent to it
abbrev pub machine_of : Card → List ℕ → List ℕ → Machine
machine_of c store marks = record { phase = c.phase; state = c.state; buffer = c.buffer; store = store; marks = marks }

-- what an access leaves, of the answer and what was lent
abbrev pub answered : Answer → List ℕ → List ℕ → Effect
answered a store marks = leaving a.outcome (machine_of a.card store marks)

-- a card of its core and its buffer, and its core
abbrev pub card_of : Core → List ℕ → Card
card_of k buffer = record { phase = k.phase; state = k.state; buffer = buffer }

abbrev pub core_in : Card → Core
core_in c = core c.phase c.state

-- "Each answer says if the line is up": it is that of the card that comes back
abbrev pub answer : Outcome → Card → Answer
answer o c = record { outcome = o; line = line_of c.state; card = c }

abbrev pub refused_by : Card → Refusal → Answer
refused_by c r = answer (Err r) c

-- the option as a method: 12; 7 in True IDE mode, where attribute memory does not answer; 10; else the write
abbrev pub option_table : ℕ → Card → List (Row Refusal)
option_table v c =
    Unless (well_made c.phase c.state) NotWellMade
    ∷ Unless (answers_at 0 c.state.made.mode (index_in c.state.option)) SpaceSilent
    ∷ Unless (index_fits v) IndexAboveThree
    ∷ []

unfoldable pub option_answered : ℕ → Card → Answer
option_answered v c =
    first_of (option_table v c) (refused_by c)
    (answer (Ok 0) (card_of (option_core v c.phase c.state) (option_buffer v c.state c.buffer)))

-- Device Control as a method: 12; 8 while SRESET holds; else the write
abbrev pub control_table : Card → List (Row Refusal)
control_table c =
    Unless (well_made c.phase c.state) NotWellMade
    ∷ When (sreset_in c.state.option) HeldBySreset
    ∷ []

unfoldable pub control_answered : ℕ → Card → Answer
control_answered v c = first_of (control_table c) (refused_by c) (answer (Ok 0) (card_of (control_written v c.phase c.state) c.buffer))
