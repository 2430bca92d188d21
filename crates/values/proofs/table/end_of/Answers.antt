use Rattle.values.specs.laws.Memory.{end_of}
use Rattle.std.proofs.Common.{le-ltb, lt-ltb, eq-eqb, ne_eqb}
use Rattle.values.proofs.table.end_of.Goals as goal

pub returns-then-word-epoch : goal.returns-then-word-epoch
unfolding end_of
returns-then-word-epoch c = rw (eq-eqb _ _ c.if-word-epoch.true)

pub returns-then-d-locals : goal.returns-then-d-locals
unfolding end_of
returns-then-d-locals c = rw (ne_eqb _ _ c.if-word-epoch.false, lt-ltb _ _ c.if-d-locals.true)

pub returns : goal.returns
unfolding end_of
returns c = rw (ne_eqb _ _ c.if-word-epoch.false, le-ltb _ _ c.if-d-locals.false)
