use Rattle.instruction.proofs.Instruction.imm32.Goals as goal

pub returns : goal.returns
returns c = cc
