use Rattle.std.proofs.Common.{refl, arith}
use Rattle.desk.proofs.execution.jump.Goals as goal

pub returns-then-taken : goal.returns-then-taken
returns-then-taken c = record { place = rw (c.if-taken.true, c.imm32.ensures) refl }

pub returns : goal.returns
returns c = record { place = rw c.if-taken.false (omega arith) }
