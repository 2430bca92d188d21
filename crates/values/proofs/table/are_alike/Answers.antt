use Rattle.values.specs.laws.Memory.{alike}
use Rattle.values.proofs.table.are_alike.Goals as goal

pub returns-then-exact : goal.returns-then-exact
unfolding alike
returns-then-exact c = rw c.if-exact.true

pub returns : goal.returns
unfolding alike
returns c = rw c.if-exact.false
