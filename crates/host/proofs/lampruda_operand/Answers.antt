use Rattle.host.proofs.lampruda_operand.Goals as goal

pub returns : goal.returns
returns c = record { operand = c.smallest.result; given = c.from.ensures; right = c.smallest.ensures }
