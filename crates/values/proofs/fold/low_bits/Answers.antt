use Rattle.std.proofs.Common.{le-leb}
use borrow.Author.Tests.{lt-leb}
use Rattle.words.specs.laws.Bits.{one_shl}
use Rattle.values.specs.Fold.{low_bits}
use Rattle.values.proofs.fold.low_bits.Goals as goal

pub returns-then-flags-ge128 : goal.returns-then-flags-ge128
unfolding low_bits
returns-then-flags-ge128 g c = rw (le-leb _ _ c.if-flags-ge128.true, ← one_shl g.row.BITS c.requires.narrow) c.sign_extend.ensures

pub returns : goal.returns
unfolding low_bits
returns g c = rw (lt-leb _ _ c.if-flags-ge128.false, one_shl g.row.BITS c.requires.narrow)
