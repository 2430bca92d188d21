use borrow.Rule.Slice.PartMut.{mid_of}
use Rattle.effects.specs.Shape.{tables_in}
use Rattle.effects.specs.Check.{operand_refusal}
use Rattle.effects.specs.laws.Unrefused.{Unrefused}
use Rattle.flow.proofs.Controlling.{Controlling}
use Rattle.flow.proofs.control.check_operands.Given as goal

-- no place before p is refused, and its control places are listed
abbrev pub invariant-loop-p : goal.invariant-loop-p
invariant-loop-p l =
    Unrefused (λ p' x. operand_refusal l.locals (tables_in l.tables) x) (mid_of 0 l.n l.initial.memory) l.metadata l.p × Controlling l.initial.memory l.n l.at l.memory l.count l.p
