use Rattle.numbering.proofs.Walking.{store_interned}
use Rattle.numbering.proofs.walk.store_constant.Goals as goal

pub returns : goal.returns
returns c = store_interned c.args.i c.constant-d.ensures c.store.ensures
