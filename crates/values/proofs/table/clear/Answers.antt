use Rattle.values.proofs.Recording.{clears}
use Rattle.values.proofs.table.clear.Goals as goal

pub returns : goal.returns
returns c = clears c.requires.0 c.requires.1
