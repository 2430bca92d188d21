use borrow.Author.Tests.{lt-ltb, le-ltb}
use Rattle.short.specs.Short.{length_of, first_of_three, first_of_four}
use Rattle.short.proofs.length_of.Goals as goal

pub returns-then-number-lt-FIRST_OF_THREE : goal.returns-then-number-lt-FIRST_OF_THREE
unfolding length_of
returns-then-number-lt-FIRST_OF_THREE c = rw (lt-ltb _ first_of_three c.if-number-lt-FIRST_OF_THREE.true)

pub returns-then-number-lt-FIRST_OF_FOUR : goal.returns-then-number-lt-FIRST_OF_FOUR
unfolding length_of
returns-then-number-lt-FIRST_OF_FOUR c = rw (le-ltb _ first_of_three c.if-number-lt-FIRST_OF_THREE.false, lt-ltb _ first_of_four c.if-number-lt-FIRST_OF_FOUR.true)

pub returns-else-number-lt-FIRST_OF_FOUR : goal.returns-else-number-lt-FIRST_OF_FOUR
unfolding length_of
returns-else-number-lt-FIRST_OF_FOUR c = rw (le-ltb _ first_of_three c.if-number-lt-FIRST_OF_THREE.false, le-ltb _ first_of_four c.if-number-lt-FIRST_OF_FOUR.false)
