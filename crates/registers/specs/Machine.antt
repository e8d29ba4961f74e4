-- The machine that accesses change: the card's phase, state and buffer, the store and the marks.
use Rattle.std.specs.Prelude.{ℕ, List}
use Rattle.registers.specs.declared.Phase.{Phase}
use Rattle.registers.specs.declared.State.{State}
use Rattle.registers.specs.declared.Core.{Core}

pub record Machine : Type 0 where
  pub phase : Phase
  pub state : State
  pub buffer : List ℕ
  pub store : List ℕ
  pub marks : List ℕ

-- of a core and what is lent
abbrev pub machine : Core → List ℕ → List ℕ → List ℕ → Machine
machine k buffer store marks = record { phase = k.phase; state = k.state; buffer = buffer; store = store; marks = marks }

abbrev pub core : Phase → State → Core
core p s = record { phase = p; state = s }

abbrev pub core_of : Machine → Core
core_of m = core m.phase m.state

-- the machine with another core, and with another buffer
abbrev pub with_core : Core → Machine → Machine
with_core k m = machine k m.buffer m.store m.marks

abbrev pub with_buffer : List ℕ → Machine → Machine
with_buffer b m = machine (core_of m) b m.store m.marks
