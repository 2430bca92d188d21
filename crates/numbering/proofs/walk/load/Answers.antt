use Rattle.numbering.proofs.walk.load.Goals as goal

pub returns : goal.returns
returns c = rw (c.with_imm32.ensures, c.new.ensures)
