use Rattle.numbering.proofs.Folding.{fold_definition, fold_binary_numbers, fold_unary_number}
use Rattle.numbering.proofs.walk.fold_numbers.Goals as goal

pub returns-then-left-zero : goal.returns-then-left-zero
returns-then-left-zero c = fold_definition _ _ _ _ _ _ _ c.if-binary.true c.if-left-zero.true

pub returns-then-binary : goal.returns-then-binary
returns-then-binary c =
    fold_binary_numbers _ _ _ _ _ _ _ _ _ c.if-binary.true c.atom-x.ensures c.atom-y.ensures c.fold_binary.ensures

pub returns : goal.returns
returns c = fold_unary_number _ _ _ _ _ _ _ _ c.if-binary.false c.atom.ensures c.fold_unary.ensures
