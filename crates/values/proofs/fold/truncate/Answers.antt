use Rattle.std.proofs.Common.{ne_eqb}
use Rattle.values.specs.Fold.{trunc}
use Rattle.values.proofs.fold.truncate.Goals as goal

pub returns-in-1 : goal.returns-in-1
unfolding trunc
returns-in-1 c = rw c.in-1.is c.low_bits.ensures

pub returns-in-2 : goal.returns-in-2
unfolding trunc
returns-in-2 c = rw c.in-2.is c.low_bits-in-2.ensures

pub returns-in-4 : goal.returns-in-4
unfolding trunc
returns-in-4 c = rw c.in-4.is c.low_bits-in-4.ensures

pub returns-in_default : goal.returns-in_default
unfolding trunc
returns-in_default c = rw (ne_eqb _ 1 c.in_default.in_default-own.rest.0.0.1, ne_eqb _ 2 c.in_default.in_default-own.rest.0.1, ne_eqb _ 4 c.in_default.in_default-own.rest.1)
