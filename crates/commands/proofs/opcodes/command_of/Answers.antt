use mathlib.Core.Path.{◌∙◌}
use borrow.Author.Rules.{rules}
use Rattle.commands.proofs.EachOpcode.{each_opcode}
use Rattle.commands.proofs.opcodes.command_of.Goals as goal

pub returns : goal.returns
returns c =
    let table = c.opcode_table-table in
    c.command_of_class.ensures ∙ each_opcode table.result table.ensures c.args.opcode (search rules)
