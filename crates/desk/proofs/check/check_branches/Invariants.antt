use Rattle.std.proofs.Common.{suc, length}
use Rattle.answer.specs.Answer.{cells_of}
use Rattle.effects.specs.laws.Unrefused.{Clear}
use Rattle.desk.proofs.laws.Checking.{branch_test}
use Rattle.desk.proofs.check.check_branches.Given as goal

-- no branch before p is refused
abbrev pub invariant-loop-p : goal.invariant-loop-p
invariant-loop-p l = Clear (branch_test (suc (length (cells_of l.unit)))) (cells_of l.unit) l.p
