use Rattle.std.proofs.Common.{arith}
use Rattle.operand.proofs.Comparing.{equal_holds, equal_fails}
use Rattle.operand.proofs.comparison.equal.Goals as goal

pub returns-then-holds : goal.returns-then-holds
returns-then-holds c = equal_holds _ c.if-holds.true (λ r h d. omega arith)

pub returns-then-left-eq0 : goal.returns-then-left-eq0
returns-then-left-eq0 c = equal_fails _ c.if-holds.false (λ r h d. omega arith)

pub returns-else-left-eq0 : goal.returns-else-left-eq0
returns-else-left-eq0 c = equal_fails _ c.if-holds.false (λ r h d. omega arith)
