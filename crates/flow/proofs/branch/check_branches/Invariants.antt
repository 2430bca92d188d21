use Rattle.std.proofs.Common.{◌≡◌, ℕ, cond, List, length}
use Rattle.unit.specs.Refusal.{branch_outside}
use Rattle.effects.specs.Shape.{Cell}
use Rattle.effects.specs.laws.Cells.{cells_by}
use Rattle.flow.specs.Branch.{branch_inside}
use Rattle.flow.specs.laws.ControlSweep.{Swept}
use Rattle.flow.proofs.branch.check_branches.Given as goal

-- the test of `branch_check_in`
abbrev pub branch_test : ℕ → ℕ → Cell → ℕ
branch_test n p x = cond (branch_inside n p x.instruction) 0 branch_outside

abbrev pub invariant-loop-place : goal.invariant-loop-place
invariant-loop-place l = (l.n ≡ length l.words) × ((metadata : List ℕ) → Swept (branch_test (length (cells_by l.words metadata))) l.words metadata l.list l.place-index)
