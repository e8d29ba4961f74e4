use mathlib.Core.Path.{refl}
use Rattle.ground.specs.Lists.{listed}
use Rattle.commands.specs.Table.{command_of}
use Rattle.commands.specs.Opcodes.{command_of_class}
use Rattle.commands.proofs.opcodes.opcode_table.Goals as goal

-- the test, computed over the whole table
pub returns : goal.returns
unfolding listed command_of command_of_class
returns c = refl
