use Rattle.values.specs.laws.Attaching.{descent_start, descent_less, descent_on, attach_room, attached}
use Rattle.values.proofs.entries.attach.Goals as goal

pub loop-w-init : goal.loop-w-init
loop-w-init c = descent_start c.requires.0 c.requires.1 c.requires.2 c.requires.3 c.requires.4

pub overflow_add-w : goal.overflow_add-w
overflow_add-w c = record { fits = attach_room c.loop-w.invariant c.child-next.ensures c.if-next-eq0.true c.link.ensures (c.slice_known-in-loop-w-1.given _).fits }

pub returns-then-next-eq0 : goal.returns-then-next-eq0
returns-then-next-eq0 c = attached c.loop-w.invariant c.child-next.ensures c.if-next-eq0.true c.link.ensures

pub shape_of-w-then-next-eq0 : goal.shape_of-w-then-next-eq0
shape_of-w-then-next-eq0 c = (returns-then-next-eq0 c).long

pub loop-w-smaller : goal.loop-w-smaller
loop-w-smaller c = descent_less c.loop-w.invariant c.child-next.ensures c.if-next-eq0.false

pub loop-w-preserved : goal.loop-w-preserved
loop-w-preserved c = descent_on c.loop-w.invariant c.child-next.ensures c.if-next-eq0.false
