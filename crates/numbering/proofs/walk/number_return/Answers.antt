use Rattle.numbering.proofs.Walking.{return_read, return_other, forget_becomes}
use borrow.Author.Tests.{eq-eqb, ne_eqb}
use mathlib.Core.Path.{sym, ◌∙◌}
use Rattle.numbering.proofs.walk.number_return.Goals as goal

pub number_read-requires : goal.number_read-requires
number_read-requires c = (c.requires.0, c.requires.1 c.if-i-eq1.true)

pub returns-then-scalar : goal.returns-then-scalar
returns-then-scalar c = return_read c.args.i c.if-i-eq1.true c.scalar.ensures c.if-scalar.true c.number_read.ensures

pub returns-then-i-eq1 : goal.returns-then-i-eq1
returns-then-i-eq1 c = forget_becomes c.forget.ensures (λ dest d l T v. return_other _ c.args.i d l T v (rw (eq-eqb c.args.i.b 1 c.if-i-eq1.true) (sym c.scalar.ensures ∙ c.if-scalar.false)))

pub returns : goal.returns
returns c = forget_becomes c.forget-2.ensures (λ dest d l T v. return_other _ c.args.i d l T v (rw (ne_eqb c.args.i.b 1 c.if-i-eq1.false)))
