use Rattle.answer.specs.Answer.{cells_of}
use Rattle.effects.specs.laws.Unrefused.{Clear}
use Rattle.desk.proofs.laws.Checking.{operand_test}
use Rattle.desk.proofs.check.check_operands.Given as goal

-- no operands before p are refused
abbrev pub invariant-loop-p : goal.invariant-loop-p
invariant-loop-p l = Clear (operand_test l.unit) (cells_of l.unit) l.p
