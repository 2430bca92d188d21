use mathlib.Core.Path.{refl}
use Rattle.again.specs.Again.{offsets_of}
use Rattle.again.proofs.offsets_of.Goals as goal

pub returns : goal.returns
unfolding offsets_of
returns c = record { offsets = refl }
