use borrow.Author.Tests.{ne_eqb}
use Rattle.short.specs.Short.{first_of}
use Rattle.short.proofs.first_of.Goals as goal

pub returns-then-n-eq2 : goal.returns-then-n-eq2
unfolding first_of
returns-then-n-eq2 c = rw c.if-n-eq2.true

pub returns-then-n-eq3 : goal.returns-then-n-eq3
unfolding first_of
returns-then-n-eq3 c = rw (ne_eqb _ 2 c.if-n-eq2.false, c.if-n-eq3.true)

pub returns-else-n-eq3 : goal.returns-else-n-eq3
unfolding first_of
returns-else-n-eq3 c = rw (ne_eqb _ 2 c.if-n-eq2.false, ne_eqb _ 3 c.if-n-eq3.false)
