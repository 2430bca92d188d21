use Rattle.numbering.proofs.Walking.{second_chosen, second_none}
use Rattle.numbering.specs.laws.Walk.{second_number}
use Rattle.numbering.proofs.walk.second.Goals as goal

pub representative-requires : goal.representative-requires
unfolding second_number
representative-requires c = (c.requires.0, c.requires.1 c.if-binary.true, rw c.if-binary.true at c.requires.2)

pub returns-then-binary : goal.returns-then-binary
returns-then-binary c = second_chosen _ c.if-binary.true c.representative.ensures

pub returns : goal.returns
returns c = second_none _ c.requires.0 c.if-binary.false
