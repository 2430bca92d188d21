use Rattle.std.proofs.Common.{refl, sym}
use Rattle.words.specs.laws.Word.{mul_wraps}
use Rattle.words.proofs.word.wrapping_mul.Goals as goal

pub returns : goal.returns
returns c = record { product = refl; halves = sym (mul_wraps c.args.a c.args.b) }
