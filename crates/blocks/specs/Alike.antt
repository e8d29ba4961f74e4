-- 02, "One": "Data, sectors and error places are those of 20H and 30H". What two cards have in common that differ by blocks alone.
use Rattle.std.specs.Prelude.{ℕ, false, ◌≡◌, List, [], ◌∷◌}
use Rattle.maps.specs.declared.Register.TheVariants.{StatusCommand}
use Rattle.registers.specs.declared.Load.{Load}
use Rattle.registers.specs.declared.Load.TheVariants.{Sectors, Buffer}
use Rattle.registers.specs.declared.Transfer.{Transfer}
use Rattle.registers.specs.declared.Phase.{Phase}
use Rattle.registers.specs.declared.Phase.TheVariants.{Idle, DataIn, DataOut}
use Rattle.registers.specs.Blocks.{single}
use Rattle.registers.specs.State.{with_interrupt}
use Rattle.registers.specs.Machine.{Machine, machine, core}
use Rattle.transfers.specs.declared.Way.{Way}
use Rattle.transfers.specs.declared.Way.TheVariants.{In, Out}
use Rattle.port.specs.Data.{Effect}
use Rattle.card.specs.declared.Meaning.TheVariants.{WriteRegister}
use Rattle.card.specs.Access.{Asked, meaning}

-- a transfer with its sectors moved singly
abbrev pub singly : Load → Load
singly Buffer = Buffer
singly (Sectors left pace) = Sectors left single

abbrev pub transfer_singly : Transfer → Transfer
transfer_singly t = record { load = singly t.load; half = t.half; words = t.words }

abbrev pub phase_singly : Phase → Phase
phase_singly Idle = Idle
phase_singly (DataIn t) = DataIn (transfer_singly t)
phase_singly (DataOut t) = DataOut (transfer_singly t)

-- the card and what is lent to it, but for the pace and the interrupt mark: the phase, the sectors left, the word at hand, every register, the code, the
-- number of bad sectors, the block, the geometries, the settings, the buffer, the store and the marks
abbrev pub bare : Machine → Machine
bare m = machine (core (phase_singly m.phase) (with_interrupt false m.state)) m.buffer m.store m.marks

-- what an access leaves, so; its answer is all there
abbrev pub bare_effect : Effect → Effect
bare_effect e = record { outcome = e.outcome; next = bare e.next }

abbrev pub bare_steps : List Effect → List Effect
bare_steps [] = []
bare_steps (e ∷ l) = let rest = bare_steps l in bare_effect e ∷ rest

-- Read Multiple and Read Sectors, Write Multiple and Write Sectors
abbrev pub multiple_code : Way → ℕ
multiple_code In = 0xC4
multiple_code Out = 0xC5

abbrev pub single_code : Way → ℕ
single_code In = 0x20
single_code Out = 0x30

-- an access that writes Command
abbrev pub Gives : Machine → Asked → ℕ → Type 0
Gives m a v = meaning m a ≡ WriteRegister StatusCommand v
