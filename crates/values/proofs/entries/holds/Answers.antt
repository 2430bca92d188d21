use Rattle.values.specs.laws.Entries.{same_key}
use Rattle.std.proofs.Common.{refl}
use Rattle.values.proofs.entries.holds.Goals as goal

pub returns : goal.returns
unfolding same_key
returns c = refl
