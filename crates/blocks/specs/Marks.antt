-- 02, "One": "The interrupt mark is then set once per block". How often a list of accesses sets it.
use Rattle.std.specs.Prelude.{ℕ, ◌+◌, ◌-◌, ◌/◌, ◌%◌, Bool, false, ◌≡◌, List, [], ◌∷◌}
use Rattle.ground.specs.Choice.{pick}
use Rattle.registers.specs.State.{with_interrupt}
use Rattle.registers.specs.Machine.{Machine, core, with_core}
use Rattle.card.specs.Access.{Asked}
use Rattle.card.specs.Step.{step, play}
use Rattle.account.specs.Numbers.{status_idle}
use Rattle.account.specs.Host.{Moves}

-- the card with its interrupt mark clear
abbrev pub unmarked : Machine → Machine
unmarked m = with_core (core m.phase (with_interrupt false m.state)) m

-- an access sets the mark if it is set after it, where it was clear before
abbrev pub sets_mark : Machine → Asked → Bool
sets_mark m a = (step (unmarked m) a).next.state.interrupt

-- how many of a list do, each with the card as those before it left it
unfoldable pub marks_set : Machine → List Asked → ℕ
marks_set m [] = 0
marks_set m (a ∷ l) = pick (sets_mark m a) 1 0 + marks_set (step m a).next l

-- accesses that move all of a command's data, none of them a command or a reset, and the command ends well
abbrev pub EndsWell : Machine → List Asked → Type 0
EndsWell m l = Moves m l × ((play m l).last.state.registers.status ≡ status_idle)

-- with so many sectors of a command moved: how many blocks are full, counted from its first sector, and how many sectors the one after them has
abbrev pub full_blocks : ℕ → ℕ → ℕ
full_blocks moved b = moved / b

abbrev pub part_moved : ℕ → ℕ → ℕ
part_moved moved b = moved % b

-- n divided by b, rounded up
abbrev pub rounded_up : ℕ → ℕ → ℕ
rounded_up n b = (n + b - 1) / b
