use Rattle.std.proofs.Common.{◌∙◌, arith}
use Rattle.ground.proofs.Tests.{tests}
use Rattle.records.proofs.Heads.{next_held}
use Rattle.records.proofs.next_record.Goals as goal

pub returns-in-1 : goal.returns-in-1
returns-in-1 c = rw c.in-1.is at (next_held c.args.file.now c.args.at c.in_ok-head.head c.in_ok-head.ensures.head)

pub returns-in-2 : goal.returns-in-2
returns-in-2 c = c.access_tested.ensures ∙ rw c.in-2.is at (next_held c.args.file.now c.args.at c.in_ok-head.head c.in_ok-head.ensures.head)

pub returns-in-3 : goal.returns-in-3
returns-in-3 c = c.access_tested-in-3.ensures ∙ rw c.in-3.is at (next_held c.args.file.now c.args.at c.in_ok-head.head c.in_ok-head.ensures.head)

pub returns-in_default : goal.returns-in_default
returns-in_default c = grind (arith, tests, next_held c.args.file.now c.args.at c.in_ok-head.head c.in_ok-head.ensures.head)
