use Rattle.std.proofs.Common.{arith}
use Rattle.operand.proofs.Comparing.{signed_less_holds, signed_less_fails}
use Rattle.operand.proofs.comparison.signed_less.Goals as goal

pub returns-then-holds : goal.returns-then-holds
returns-then-holds c = signed_less_holds _ c.if-holds.true (λ r h d. omega arith)

pub returns-else-holds : goal.returns-else-holds
returns-else-holds c = signed_less_fails _ c.if-holds.false (λ r h d. omega arith)

pub returns-then-holds-2 : goal.returns-then-holds-2
returns-then-holds-2 c = signed_less_holds _ c.if-holds-2.true (λ r h d. omega arith)

pub returns-else-holds-2 : goal.returns-else-holds-2
returns-else-holds-2 c = signed_less_fails _ c.if-holds-2.false (λ r h d. omega arith)
