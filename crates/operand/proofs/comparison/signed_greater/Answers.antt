use Rattle.std.proofs.Common.{arith}
use Rattle.operand.proofs.Comparing.{signed_greater_holds, signed_greater_fails}
use Rattle.operand.proofs.comparison.signed_greater.Goals as goal

pub returns-then-not-holds : goal.returns-then-not-holds
returns-then-not-holds c = signed_greater_fails _ c.if-not-holds.true (λ r h d. omega arith)

pub returns-then-left-eq0 : goal.returns-then-left-eq0
returns-then-left-eq0 c = signed_greater_holds _ c.if-not-holds.false (λ r h d. omega arith)

pub returns-else-left-eq0 : goal.returns-else-left-eq0
returns-else-left-eq0 c = signed_greater_holds _ c.if-not-holds.false (λ r h d. omega arith)

pub returns-then-holds : goal.returns-then-holds
returns-then-holds c = signed_greater_holds _ c.if-holds.true (λ r h d. omega arith)

pub returns-else-holds : goal.returns-else-holds
returns-else-holds c = signed_greater_fails _ c.if-holds.false (λ r h d. omega arith)
