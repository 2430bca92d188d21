use Rattle.std.proofs.Common.{sym, arith, ◌^◌, ◌-◌, ◌<◌}
use Rattle.std.proofs.Math.Pow.{pow-lt}
use Rattle.words.specs.laws.Bits.{one_shl}
use Rattle.words.specs.laws.Word.{sign_plus, sign_minus, minus_wraps}
use Rattle.words.proofs.word.sign_extend.Goals as goal

pub returns-then-x : goal.returns-then-x
returns-then-x g c =
    let b = g.row.BITS in
    let room : b - 1 < 64 = omega (arith, c.requires.narrow) in
    sym (sign_plus b c.args.x (rw (← one_shl (b - 1) room) c.if-x.true))

pub returns-else-x : goal.returns-else-x
returns-else-x g c =
    let b = g.row.BITS in
    let room : b - 1 < 64 = omega (arith, c.requires.narrow) in
    let wide : 2 ^ b < 2 ^ 64 = pow-lt c.requires.narrow in
    rw (one_shl b c.requires.narrow, sign_minus b c.args.x (rw (← one_shl (b - 1) room) c.if-x.false))
    (minus_wraps c.requires.fits wide)
