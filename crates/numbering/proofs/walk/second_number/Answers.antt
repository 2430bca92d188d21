use Rattle.numbering.specs.laws.Walk.{second_number}
use native.Mathlib.Omega.{arith}
use Rattle.numbering.proofs.walk.second_number.Goals as goal

pub number-requires : goal.number-requires
number-requires c = (c.requires.0, c.requires.1 c.if-binary.true)

pub returns-then-binary : goal.returns-then-binary
unfolding second_number
returns-then-binary c = (rw c.if-binary.true c.number.ensures.0, c.number.ensures.1)

pub returns : goal.returns
unfolding second_number
returns c = (rw c.if-binary.false, omega arith)
