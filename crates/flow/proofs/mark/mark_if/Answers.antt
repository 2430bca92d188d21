use Rattle.std.proofs.Common.{sym}
use lib.Seq.{set_out}
use Rattle.flow.specs.Reach.{mark_all}
use Rattle.flow.proofs.mark.mark_if.Goals as goal

pub returns-then-at-marks : goal.returns-then-at-marks
unfolding mark_all
returns-then-at-marks c = rw c.if-when.true

pub returns-else-at-marks : goal.returns-else-at-marks
unfolding mark_all
returns-else-at-marks c = rw c.if-when.true (sym (set_out _ _ 1 c.if-at-marks.false))

pub returns-else-when : goal.returns-else-when
unfolding mark_all
returns-else-when c = rw c.if-when.false
