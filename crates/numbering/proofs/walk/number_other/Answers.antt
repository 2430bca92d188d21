use Rattle.numbering.proofs.Walking.{other_pure, other_cleared, forget_becomes}
use Rattle.numbering.proofs.walk.number_other.Goals as goal

pub returns-then-scalar : goal.returns-then-scalar
returns-then-scalar c = other_pure c.args.i c.args.p c.args.k c.scalar.ensures c.if-scalar.true c.number_pure.ensures

pub returns : goal.returns
returns c = forget_becomes c.forget.ensures (λ dest. other_cleared _ c.args.i c.args.p c.args.k c.scalar.ensures c.if-scalar.false)
