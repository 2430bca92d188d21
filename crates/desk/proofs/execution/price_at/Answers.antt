use Rattle.std.proofs.Common.{arith}
use Rattle.desk.proofs.execution.price_at.Goals as goal

pub overflow_cast-result-2 : goal.overflow_cast-result-2
overflow_cast-result-2 c = omega (arith, c.type_inv.tariff c.read-i.result.op)

pub returns : goal.returns
returns c = record { price = rw c.read-i.ensures }
