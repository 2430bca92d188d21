use borrow.Author.Tests.{eq-eqb, ne_eqb}
use Rattle.optimize.proofs.code.is_unchanged.Goals as goal

pub returns-then-retained-words : goal.returns-then-retained-words
returns-then-retained-words c = rw (ne_eqb _ _ c.if-retained-words.true)

pub returns : goal.returns
returns c = rw (eq-eqb _ _ c.if-retained-words.false) c.is_same.ensures
