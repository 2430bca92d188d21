use Rattle.std.proofs.Common.{arith}
use Rattle.operand.proofs.Comparing.{less_holds, less_fails}
use Rattle.operand.proofs.comparison.less.Goals as goal

pub returns-then-holds : goal.returns-then-holds
returns-then-holds c = less_holds _ c.if-holds.true (λ r h d. omega arith)

pub returns : goal.returns
returns c = less_fails _ c.if-holds.false (λ r h d. omega arith)
