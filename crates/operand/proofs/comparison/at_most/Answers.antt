use Rattle.std.proofs.Common.{arith}
use Rattle.operand.proofs.Comparing.{at_most_holds, at_most_fails}
use Rattle.operand.proofs.comparison.at_most.Goals as goal

pub returns-then-holds : goal.returns-then-holds
returns-then-holds c = at_most_holds _ c.if-holds.true (λ r h d. omega arith)

pub returns-else-holds : goal.returns-else-holds
returns-else-holds c = at_most_fails _ c.if-holds.false (λ r h d. omega arith)
