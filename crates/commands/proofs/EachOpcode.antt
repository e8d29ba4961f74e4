-- The test over the whole opcode table, carried to each opcode.
use Prim.Native.Nat.{ℕ, ◌<◌}
use mathlib.Core.Path.{◌≡◌, ap, sym, ◌∙◌}
use mathlib.Core.List.{List}
use native.Mathlib.Nat.{zero-add}
use lib.ListN.{get_or}
use Rattle.ground.proofs.Lists.{listed_at}
use Rattle.commands.specs.declared.Command.{Command}
use Rattle.commands.specs.declared.Command.TheVariants.{Other}
use Rattle.commands.specs.Table.{command_of}
use Rattle.commands.specs.Opcodes.{command_of_class, class_at, opcode_count, TableAgrees}

pub each_opcode : (table : List (List ℕ)) → TableAgrees table → (opcode : ℕ) → opcode < opcode_count → command_of_class (class_at table opcode) ≡ command_of opcode
each_opcode table agrees opcode byte =
    rw (zero-add opcode)
    at (sym (listed_at (λ (k : ℕ). command_of_class (class_at table k)) 0 opcode_count opcode Other byte)
    ∙ ap (λ (l : List Command). get_or l opcode Other) agrees
    ∙ listed_at command_of 0 opcode_count opcode Other byte)
