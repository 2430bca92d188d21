use Rattle.values.specs.laws.Entries.{mixed}
use Rattle.values.proofs.entries.mix.Goals as goal

pub returns : goal.returns
unfolding mixed
returns c = cc
