use Rattle.effects.specs.Shape.{extern_slots}
use Rattle.effects.proofs.form.extern_slots.Goals as goal

pub returns-in-Some : goal.returns-in-Some
unfolding extern_slots
returns-in-Some c = rw c.in-Some.is

pub returns-in-None : goal.returns-in-None
unfolding extern_slots
returns-in-None c = rw c.in-None.is
