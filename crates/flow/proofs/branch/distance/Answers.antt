use Rattle.flow.proofs.branch.distance.Goals as goal

pub returns-then-looped : goal.returns-then-looped
returns-then-looped c = rw c.if-looped.true c.for_loop_distance-near.ensures

pub returns-else-looped : goal.returns-else-looped
returns-else-looped c = rw c.if-looped.false c.imm32-far.ensures
