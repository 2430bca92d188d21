use Rattle.std.proofs.Common.{◌%◌, arith}
use Rattle.words.specs.laws.Bits.{removed, one_shl}
use Rattle.words.proofs.bits.remove.Goals as goal

pub returns : goal.returns
unfolding removed
returns c = rw (one_shl (c.args.i % 64) (omega arith))
