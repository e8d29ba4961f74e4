-- What a wrong card changes: the access before the card's step, the machine before it, or what it leaves.
use Rattle.std.specs.Prelude.{ℕ, List, eqb, Ok}
use Rattle.ground.specs.Choice.{pick}
use Rattle.geometry.specs.declared.Address.{Address}
use Rattle.registers.specs.declared.State.{State}
use Rattle.registers.specs.State.{with_address}
use Rattle.registers.specs.Machine.{Machine, machine, core, core_of, with_core}
use Rattle.port.specs.Data.{Effect}
use Rattle.card.specs.Access.{Asked, asked_with}

-- an access to memory at another address
abbrev pub elsewhere : (ℕ → ℕ) → Asked → Asked
elsewhere f a =
    pick (eqb a.access.space 1)
    (asked_with (record { space = 1; width = a.access.width; address = f a.access.address; value = a.access.value; write = a.access.write }) a.tuples)
    a

-- the machine with another state, with another address in its registers, with other sectors and marks
abbrev pub with_state : State → Machine → Machine
with_state s m = with_core (core m.phase s) m

abbrev pub address_in : Machine → Address
address_in m = m.state.registers.address

abbrev pub at_address : Address → Machine → Machine
at_address a m = with_state (with_address a m.state) m

abbrev pub with_lent : List ℕ → List ℕ → Machine → Machine
with_lent store marks m = machine (core_of m) m.buffer store marks

-- a step that answers another value, one that leaves another machine, one that leaves another state
abbrev pub answers_with : ℕ → Effect → Effect
answers_with value s = record { outcome = Ok value; next = s.next }

abbrev pub with_next : Machine → Effect → Effect
with_next m s = record { outcome = s.outcome; next = m }

abbrev pub altered : (State → State) → Effect → Effect
altered f s = with_next (with_state (f s.next.state) s.next) s
