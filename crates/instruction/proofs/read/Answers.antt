use Rattle.instruction.specs.Instruction.{instruction_at}
use Rattle.instruction.proofs.read.Goals as goal

pub returns : goal.returns
unfolding instruction_at
returns c = cc
