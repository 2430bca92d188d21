use Rattle.numbering.proofs.Walking.{store_becomes}
use Rattle.numbering.proofs.walk.store.Goals as goal

pub returns : goal.returns
returns c = store_becomes c.store.ensures
