use Rattle.numbering.proofs.Loop.{enters_cleared, enters_same}
use Rattle.numbering.proofs.walk.enter.Goals as goal

pub returns-then-leader-eq1 : goal.returns-then-leader-eq1
returns-then-leader-eq1 c = enters_cleared c.if-leader-eq1.true c.clear.ensures

pub returns-else-leader-eq1 : goal.returns-else-leader-eq1
returns-else-leader-eq1 c = enters_same c.if-leader-eq1.false c.requires.0
