use Rattle.std.proofs.Common.{refl}
use Rattle.words.specs.laws.Bits.{member}
use Rattle.words.proofs.bits.contains.Goals as goal

pub returns : goal.returns
unfolding member
returns c = refl
