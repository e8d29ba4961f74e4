-- 02, "Two": the class of each opcode, a number in a table of sixteen rows of sixteen, and the command that a class means.
use Rattle.std.specs.Prelude.{ℕ, ◌/◌, ◌%◌, ◌≡◌, List, [], ◌∷◌, get_or}
use Rattle.ground.specs.Lists.{listed}
use Rattle.ground.specs.Tables.{Numbered, At, lookup}
use Rattle.commands.specs.declared.Command.{Command}
use Rattle.commands.specs.declared.Command.TheVariants.{Read, Write, Verify, Erase, Identify, ReadBuffer, WriteBuffer, SetGeometry, Diagnose, Recalibrate, Seek, Sense, SetMultiple, ReadMultiple, WriteMultiple, Other}
use Rattle.commands.specs.Table.{command_of}

-- the class of each command; that of "others" is 0
abbrev pub class_table : List (Numbered Command)
class_table =
    At 1 Read
    ∷ At 2 Write
    ∷ At 3 Verify
    ∷ At 4 Erase
    ∷ At 5 Identify
    ∷ At 6 ReadBuffer
    ∷ At 7 WriteBuffer
    ∷ At 8 SetGeometry
    ∷ At 9 Diagnose
    ∷ At 10 Recalibrate
    ∷ At 11 Seek
    ∷ At 12 Sense
    ∷ At 13 SetMultiple
    ∷ At 14 ReadMultiple
    ∷ At 15 WriteMultiple
    ∷ []

-- which command a class means; any other number means "others"
unfoldable pub command_of_class : ℕ → Command
command_of_class class = lookup class_table class Other

-- the class of an opcode in the table: its first digit names the row, its second the place in the row
abbrev pub class_at : List (List ℕ) → ℕ → ℕ
class_at table opcode = get_or (get_or table (opcode / 16) []) (opcode % 16) 0

-- an opcode is a byte
abbrev pub opcode_count : ℕ
opcode_count = 256

-- "over the whole table, that it agrees with the command list": what the class of each opcode means is what the command table has for the opcode
abbrev pub TableAgrees : List (List ℕ) → Type 0
TableAgrees table = listed (λ (opcode : ℕ). command_of_class (class_at table opcode)) 0 opcode_count ≡ listed command_of 0 opcode_count
