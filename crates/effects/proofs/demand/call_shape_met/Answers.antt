use Rattle.effects.specs.Shape.{met}
use Rattle.effects.proofs.demand.call_shape_met.Goals as goal

pub returns-then-call_shape_is_closure : goal.returns-then-call_shape_is_closure
unfolding met
returns-then-call_shape_is_closure c = λ externs cases. rw (← c.call_shape_is_closure.ensures, c.if-call_shape_is_closure.true) c.is_call_layout.ensures

pub returns-else-call_shape_is_closure : goal.returns-else-call_shape_is_closure
unfolding met
returns-else-call_shape_is_closure c = λ externs cases. rw (← c.call_shape_is_closure.ensures, c.if-call_shape_is_closure.false, ← c.shape_callee.ensures) c.is_there.ensures
