use Rattle.std.proofs.Common.{◌≡◌, ◌<◌, ◌≤◌, true, sym, ◌∙◌, arith}
use Rattle.instruction.specs.Instruction.{class}
use Rattle.flow.specs.Branch.{branches, target}
use Rattle.flow.specs.laws.Block.{no_branch}
use Rattle.flow.specs.laws.BranchLaws.{inside_none, inside_yes, inside_no, bit_set, bit_clear}
use Rattle.flow.proofs.branch.branch_refusal.Goals as goal
use Rattle.flow.proofs.branch.branch_refusal.Tie as tie
use Rattle.flow.proofs.branch.branch_refusal.Lts
use Rattle.flow.proofs.branch.branch_refusal.Reads

abbrev Then-branches-eq1 : Type 0
Then-branches-eq1 = Lts.Then2 tie.the-claims Reads.Pre Reads.Post tie.handed_clauses

pub returns-then-not-ends_block : goal.returns-then-not-ends_block
returns-then-not-ends_block c =
    let a = c.args in
    let inside = inside_none a.n a.p a.i (no_branch (class a.i) (sym c.ends_block.ensures ∙ c.if-not-ends_block.true)) in
    record { refusal = rw inside }

-- it is a branch
branching : (c : Then-branches-eq1) → branches (class c.args.i) ≡ true
branching c = bit_set _ (rw c.class-class.ensures at c.branches.ensures) c.if-branches-eq1.true

pub returns-then-branch_target-n : goal.returns-then-branch_target-n
returns-then-branch_target-n c =
    let t = c.before.before in
    let a = t.args in
    let far : a.n ≤ target a.p a.i = omega (arith, c.branch_target.ensures (branching t)) in
    let outside = inside_no a.n a.p a.i (branching t) far in
    record { refusal = rw outside }

pub returns-else-branch_target-n : goal.returns-else-branch_target-n
returns-else-branch_target-n c =
    let t = c.before.before in
    let a = t.args in
    let near : target a.p a.i < a.n = omega (arith, c.branch_target.ensures (branching t)) in
    let inside = inside_yes a.n a.p a.i (branching t) near in
    record { refusal = rw inside }

pub returns-else-branches-eq1 : goal.returns-else-branches-eq1
returns-else-branches-eq1 c =
    let a = c.args in
    let inside = inside_none a.n a.p a.i (bit_clear (branches (class a.i)) (rw c.class-class.ensures at c.branches.ensures) c.if-branches-eq1.false) in
    record { refusal = rw inside }
