use Rattle.std.proofs.Common.{◌%◌, arith}
use Rattle.words.specs.laws.Bits.{inserted, one_shl}
use Rattle.words.proofs.bits.insert.Goals as goal

pub returns : goal.returns
unfolding inserted
returns c = rw (one_shl (c.args.i % 64) (omega arith))
