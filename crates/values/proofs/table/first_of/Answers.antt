use Rattle.values.specs.laws.Memory.{first_of}
use Rattle.std.proofs.Common.{eq-eqb, ne_eqb}
use Rattle.values.proofs.table.first_of.Goals as goal

pub returns-then-word-epoch : goal.returns-then-word-epoch
unfolding first_of
returns-then-word-epoch c = rw (eq-eqb _ _ c.if-word-epoch.true)

pub returns : goal.returns
unfolding first_of
returns c = rw (ne_eqb _ _ c.if-word-epoch.false)
