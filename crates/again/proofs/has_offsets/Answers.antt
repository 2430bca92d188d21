use Rattle.again.specs.LaidOut.{has_offsets}
use Rattle.again.proofs.has_offsets.Goals as goal

pub returns : goal.returns
unfolding has_offsets
returns c = record { answer = cc }
