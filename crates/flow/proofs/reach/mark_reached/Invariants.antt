use Rattle.std.proofs.Common.{length}
use Rattle.effects.specs.laws.Cells.{cells_by}
use Rattle.flow.specs.laws.Stack.{marks_of, Walked, left}
use Rattle.flow.specs.laws.Successors.{following}
use Rattle.flow.proofs.reach.mark_reached.Given as goal

abbrev pub invariant-loop-sp : goal.invariant-loop-sp
invariant-loop-sp l = Walked (length l.words) (following (cells_by l.words l.metadata)) l.initial.work l.work l.sp

abbrev pub decreases-loop-sp : goal.decreases-loop-sp
decreases-loop-sp l = left (length l.words) (marks_of (length l.words) l.work) l.sp
