use Rattle.effects.specs.Shape.{return_slots}
use Rattle.effects.proofs.form.return_slots.Goals as goal

pub returns-in-Some : goal.returns-in-Some
unfolding return_slots
returns-in-Some c = rw c.in-Some.is

pub returns-in-None : goal.returns-in-None
unfolding return_slots
returns-in-None c = rw c.in-None.is
