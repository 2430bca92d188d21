use Rattle.numbering.proofs.Keeping.{same_limit}
use Rattle.numbering.proofs.Walking.{copy_becomes}
use Rattle.numbering.proofs.walk.number_copy.Goals as goal

pub store-requires : goal.store-requires
store-requires c = (c.representative-b.ensures.kept.ready, c.requires.2, same_limit c.representative-b.ensures.same c.number-d.ensures.1)

pub returns : goal.returns
returns c = copy_becomes c.args.i c.requires.1 c.number-d.ensures.0 c.representative-b.ensures c.store.ensures
