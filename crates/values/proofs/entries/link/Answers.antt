use Rattle.values.specs.laws.Attaching.{link_shifted}
use Rattle.values.proofs.entries.link.Goals as goal

pub returns : goal.returns
returns c = link_shifted c.args.entry c.args.path c.requires
