use Rattle.std.proofs.Common.{◌∙◌, arith}
use Rattle.ground.proofs.Tests.{tests}
use Rattle.records.proofs.Heads.{first_held}
use Rattle.records.proofs.first_record.Goals as goal

pub returns-in-1 : goal.returns-in-1
returns-in-1 c = c.opening_of.ensures ∙ rw c.in-1.is at (first_held c.args.file.now c.in_ok-head.head c.in_ok-head.ensures.head)

pub returns-in-2 : goal.returns-in-2
returns-in-2 c = grind (arith, tests, first_held c.args.file.now c.in_ok-head.head c.in_ok-head.ensures.head)

pub returns-in_default : goal.returns-in_default
returns-in_default c = grind (arith, tests, first_held c.args.file.now c.in_ok-head.head c.in_ok-head.ensures.head)

pub returns-in_default-2 : goal.returns-in_default-2
returns-in_default-2 c = grind (arith, tests, first_held c.args.file.now c.in_ok-head.head c.in_ok-head.ensures.head)
