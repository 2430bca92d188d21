use mathlib.Core.Path.{refl}
use Rattle.again.specs.Again.{counts_with}
use Rattle.again.proofs.counts_with.Goals as goal

pub returns : goal.returns
unfolding counts_with
returns c = record { counts = refl }
