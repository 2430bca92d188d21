use Rattle.host.proofs.lampruda_short_number.Goals as goal

pub returns : goal.returns
returns c = record { found = c.find_number.result; given = c.from.ensures; right = c.find_number.ensures }
