use native.Mathlib.Numerals.{add-one}
use borrow.Author.Tests.{eq-eqb, ne_eqb}
use Rattle.parse.proofs.lowest.Goals as goal

pub returns-then-found-k : goal.returns-then-found-k
returns-then-found-k c = rw (ne_eqb _ _ c.if-found-k.true)

pub returns-then-passes : goal.returns-then-passes
returns-then-passes c = rw (eq-eqb _ _ c.if-found-k.false, c.if-passes.true)

pub returns : goal.returns
returns c = rw (eq-eqb _ _ c.if-found-k.false, c.if-passes.false) (add-one _)
