use Rattle.numbering.proofs.Walking.{read_becomes}
use mathlib.Core.Path.{refl}
use Rattle.numbering.proofs.walk.number_read.Goals as goal

pub returns : goal.returns
returns c = read_becomes c.args.i c.representative-a.ensures refl
