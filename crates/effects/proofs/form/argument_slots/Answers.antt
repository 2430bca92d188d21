use Rattle.effects.specs.Shape.{value}
use Rattle.effects.proofs.form.argument_slots.Goals as goal

pub returns-then-call_shape_is_closure : goal.returns-then-call_shape_is_closure
unfolding value
returns-then-call_shape_is_closure c = λ externs cases. rw (← c.call_shape_is_closure.ensures, c.if-call_shape_is_closure.true)

pub returns-else-call_shape_is_closure : goal.returns-else-call_shape_is_closure
unfolding value
returns-else-call_shape_is_closure c = λ externs cases. rw (← c.call_shape_is_closure.ensures, c.if-call_shape_is_closure.false, ← c.shape_callee.ensures) c.param_slots.ensures.0
