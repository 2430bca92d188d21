use Rattle.std.proofs.Common.{sym, ◌∙◌, add-one}
use Rattle.instruction.specs.Instruction.{class}
use Rattle.flow.specs.Branch.{branches}
use Rattle.flow.specs.laws.BranchLaws.{next_target, bit_set, bit_clear}
use Rattle.flow.proofs.branch.target.Goals as goal

pub returns-then-branches-eq1 : goal.returns-then-branches-eq1
returns-then-branches-eq1 c = c.branch_target.ensures (bit_set _ (rw c.class-class.ensures at c.branches.ensures) c.if-branches-eq1.true)

pub returns : goal.returns
returns c =
    let i = c.args.i in
    add-one _ ∙ sym (next_target (class i) _ i (bit_clear (branches (class i)) (rw c.class-class.ensures at c.branches.ensures) c.if-branches-eq1.false))
