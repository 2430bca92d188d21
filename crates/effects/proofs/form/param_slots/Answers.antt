use Rattle.effects.specs.Shape.{param_slots}
use borrow.Author.Rules.{rules}
use Rattle.effects.proofs.form.param_slots.Goals as goal

pub returns-in-Some : goal.returns-in-Some
unfolding param_slots
returns-in-Some c = (rw c.in-Some.is, search rules)

pub returns-in-None : goal.returns-in-None
unfolding param_slots
returns-in-None c = (rw c.in-None.is, search rules)
