use native.Mathlib.Omega.{arith}
use Rattle.numbering.proofs.Walking.{known_of_word, known_of_expression}
use Rattle.numbering.proofs.walk.known.Goals as goal

pub constant-requires : goal.constant-requires
constant-requires c = (c.requires.0.ready, c.requires.0.constants, omega arith)

pub returns-in-Some : goal.returns-in-Some
returns-in-Some c = known_of_word c.in-Some.is c.constant.ensures

pub find_expression-requires : goal.find_expression-requires
find_expression-requires c = (c.requires.0.ready, c.requires.1)

pub returns-in-None : goal.returns-in-None
returns-in-None c = known_of_expression c.in-None.is c.find_expression.ensures
