use Rattle.std.proofs.Common.{length}
use Rattle.effects.specs.laws.Cells.{cells_by}
use Rattle.flow.specs.laws.Hints.{loop_test}
use Rattle.flow.specs.laws.ControlSweep.{Swept}
use Rattle.flow.proofs.hint.check_loops.Given as goal

abbrev pub invariant-loop-place : goal.invariant-loop-place
invariant-loop-place l = Swept (loop_test l.marks (length (cells_by l.words l.metadata))) l.words l.metadata l.list l.place-index
