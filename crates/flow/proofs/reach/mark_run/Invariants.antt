use Rattle.std.proofs.Common.{◌+◌, length}
use Rattle.effects.specs.laws.Cells.{cells_by}
use Rattle.flow.specs.laws.Stack.{marks_of, left}
use Rattle.flow.specs.laws.Successors.{following}
use Rattle.flow.proofs.Running.{Running}
use Rattle.flow.proofs.reach.mark_run.Given as goal

abbrev pub invariant-loop-work : goal.invariant-loop-work
invariant-loop-work l = Running (length l.words) (following (cells_by l.words l.metadata)) l.initial.work l.work l.sp l.p

abbrev pub decreases-loop-work : goal.decreases-loop-work
decreases-loop-work l = left (length l.words) (marks_of (length l.words) l.work) (l.sp + 1)
