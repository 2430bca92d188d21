use Rattle.effects.proofs.plain.is_within.Goals as goal

pub returns : goal.returns
returns c = rw (← c.field-first.ensures, ← c.field-second.ensures, ← c.field-a.ensures)
