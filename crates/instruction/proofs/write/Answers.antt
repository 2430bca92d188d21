use Rattle.instruction.proofs.write.Goals as goal

pub returns : goal.returns
returns c = cc
