use Rattle.values.proofs.Reading.{number_read}
use Rattle.values.specs.laws.Memory.{number_at}
use Rattle.std.proofs.Common.{eq-eqb, ne_eqb}
use Rattle.values.proofs.table.number.Goals as goal

pub returns-then-w-t : goal.returns-then-w-t
unfolding number_at
returns-then-w-t c = number_read c.requires.0 c.args.s c.requires.1 (rw (eq-eqb _ _ c.if-w-t.true))

pub returns : goal.returns
unfolding number_at
returns c = number_read c.requires.0 c.args.s c.requires.1 (rw (ne_eqb _ _ c.if-w-t.false))
