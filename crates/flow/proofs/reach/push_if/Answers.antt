use Rattle.std.proofs.Common.{arith}
use Rattle.flow.specs.laws.Stack.{push_yes, push_no, push_none}
use Rattle.flow.proofs.reach.push_if.Goals as goal

pub returns-then-v-n : goal.returns-then-v-n
returns-then-v-n c = rw c.if-when.true (let a = c.args in push_yes a.n a.sp a.stack.now a.v (omega arith) (omega arith))

pub returns-else-v-n : goal.returns-else-v-n
returns-else-v-n c = rw c.if-when.true (push_no _ _ _ _ c.if-v-n.false)

pub returns-else-when : goal.returns-else-when
returns-else-when c = rw c.if-when.false (push_none _ _ _)
