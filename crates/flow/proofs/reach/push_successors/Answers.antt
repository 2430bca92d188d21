use Rattle.std.proofs.Common.{arith}
use Rattle.flow.specs.laws.Successors.{near_few}
use Rattle.flow.proofs.Pushing.{push_all_lem}
use Rattle.flow.proofs.reach.push_successors.Goals as goal

pub push_loop-requires : goal.push_loop-requires
push_loop-requires c =
    let f = c.before.before.before in
    let a = f.args in
    (omega arith, omega arith, omega (arith, f.push_near-near.auto.stack, f.push_near-near.ensures.most, near_few a.p f.from_word-i.result))

pub returns : goal.returns
returns c =
    let l = c.before.before in
    let n = l.before.before.before.before in
    push_all_lem _ _ _ _ _ _ _ n.from_word-i.ensures n.push_near-near.ensures l.push_loop.ensures
