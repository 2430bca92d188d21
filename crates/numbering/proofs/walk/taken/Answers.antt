use Rattle.numbering.specs.laws.Walk.{takes}
use Rattle.numbering.proofs.walk.taken.Goals as goal

pub returns-then-zero : goal.returns-then-zero
unfolding takes
returns-then-zero c = rw c.if-zero.true

pub returns : goal.returns
unfolding takes
returns c = rw c.if-zero.false
