use Rattle.values.specs.laws.Entries.{head_at}
use Rattle.std.proofs.Common.{eq-eqb, ne_eqb}
use Rattle.values.proofs.entries.head.Goals as goal

pub returns-then-x-epoch : goal.returns-then-x-epoch
unfolding head_at
returns-then-x-epoch c = rw (eq-eqb _ _ c.if-x-epoch.true)

pub returns : goal.returns
unfolding head_at
returns c = rw (ne_eqb _ _ c.if-x-epoch.false)
