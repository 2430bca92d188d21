use Rattle.std.proofs.Common.{◌+◌, eqb, arith}
use Rattle.flow.specs.laws.BranchLaws.{bit_one}
use Rattle.flow.specs.laws.Successors.{at_most_one}
use Rattle.flow.proofs.Pushing.{push_near}
use Rattle.flow.proofs.reach.push_near.Goals as goal

pub push_if-requires : goal.push_if-requires
push_if-requires c =
    (omega arith, omega (arith, c.push_if-next.auto.stack, c.push_if-next.ensures.most, at_most_one (eqb c.falls.result 1) (c.args.p + 1)))

pub returns : goal.returns
returns c =
    push_near _ _ _ c.args.i _ _ _ _ (bit_one _ (rw c.class-class.ensures at c.falls.ensures)) c.push_if-next.ensures (bit_one _ (rw c.class-class.ensures at c.branches.ensures)) c.target.ensures c.push_if.ensures
