use Rattle.std.proofs.Common.{length}
use Rattle.effects.specs.laws.Cells.{cells_by}
use Rattle.flow.specs.laws.ControlSweep.{Swept}
use Rattle.pc_map.specs.laws.Relocated.{relocation_test}
use Rattle.pc_map.proofs.relocation.check_relocation.Given as goal

abbrev pub invariant-loop-place : goal.invariant-loop-place
invariant-loop-place l = Swept (relocation_test l.keep (length (cells_by l.words l.metadata))) l.words l.metadata l.list l.place-index
