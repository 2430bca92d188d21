use Rattle.values.specs.laws.Attaching.{child_shifted}
use Rattle.values.proofs.entries.child.Goals as goal

pub returns : goal.returns
returns c = child_shifted c.args.links c.args.path
