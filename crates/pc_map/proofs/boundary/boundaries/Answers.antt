use Rattle.std.proofs.Common.{arith}
use Rattle.pc_map.proofs.Bounding.{bounding_begin, bounding_few, bounding_turn, bounding_end}
use Rattle.pc_map.proofs.boundary.boundaries.Goals as goal

pub loop-p-init : goal.loop-p-init
loop-p-init c = bounding_begin _ _ c.requires.2

pub overflow_add-next : goal.overflow_add-next
overflow_add-next c = omega (arith, bounding_few _ _ c.requires.2 _ _ _ c.loop-p.invariant c.requires.0 c.loop-p-test.true)

pub loop-p-preserved : goal.loop-p-preserved
loop-p-preserved c = bounding_turn _ _ c.requires.2 _ _ _ c.loop-p.invariant c.loop-p-test.true

pub returns : goal.returns
returns c = bounding_end _ _ c.requires.2 _ _ _ c.loop-p.invariant c.loop-p-test.false
