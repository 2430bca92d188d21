use Rattle.std.proofs.Common.{arith}
use Rattle.operand.proofs.Newton.{own_inverse}
use Rattle.operand.proofs.product.inverse.Goals as goal

pub returns : goal.returns
returns c = λ odd.
    let three = own_inverse c.args.odd odd in
    let six = c.refine-six.ensures 3 6 (omega arith) (omega arith) three in
    let twelve = c.refine-twelve.ensures 6 12 (omega arith) (omega arith) six in
    let twenty-four = c.refine-twenty_four.ensures 12 24 (omega arith) (omega arith) twelve in
    let forty-eight = c.refine-forty_eight.ensures 24 48 (omega arith) (omega arith) twenty-four in
    c.refine.ensures 48 64 (omega arith) (omega arith) forty-eight
