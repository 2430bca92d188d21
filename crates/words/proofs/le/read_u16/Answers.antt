use Rattle.std.proofs.Common.{arith}
use Rattle.words.specs.laws.Le.{u16_bytes}
use Rattle.words.proofs.le.read_u16.Goals as goal

pub returns : goal.returns
returns c =
    let a = c.args in
    let e = c.from_le_bytes.ensures in
    omega (arith, e, u16_bytes a.s.now a.at (omega arith))
