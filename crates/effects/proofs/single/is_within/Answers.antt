use Rattle.effects.proofs.single.is_within.Goals as goal

pub returns : goal.returns
returns c = rw (c.reads_first.ensures, c.reads_second.ensures, c.field.ensures, c.field-2.ensures, c.field-3.ensures)
