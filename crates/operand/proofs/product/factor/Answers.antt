use Rattle.std.proofs.Common.{arith, refl}
use lib.Count.{trailing_le}
use Rattle.operand.proofs.Zeros.{zeros_below, zeros_odd}
use Rattle.operand.proofs.Factors.{none_right, zero_right, factor_right}
use Rattle.operand.proofs.product.factor.Goals as goal

pub returns-then-zeros-wanted : goal.returns-then-zeros-wanted
returns-then-zeros-wanted c = none_right _ _ (omega arith)

pub returns-then-left-eq0 : goal.returns-then-left-eq0
returns-then-left-eq0 c = zero_right _ _ c.if-left-eq0.true (omega arith) (omega arith)

pub overflow_cast-k : goal.overflow_cast-k
overflow_cast-k c = omega (arith, trailing_le 64 c.args.left)

pub overflow_shr-left : goal.overflow_shr-left
overflow_shr-left c = zeros_below 64 _ (omega arith) c.if-left-eq0.false

pub overflow_shr-result : goal.overflow_shr-result
overflow_shr-result c = zeros_below 64 _ (omega arith) c.if-left-eq0.false

pub returns : goal.returns
returns c =
    let l = c.args.left in
    let other = c.if-left-eq0.false in
    let odd = zeros_odd 64 l (omega arith) (omega arith) in
    factor_right l _ _ (omega arith) (omega arith) (c.inverse.ensures odd) refl
