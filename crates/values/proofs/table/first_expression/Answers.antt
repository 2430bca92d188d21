use Rattle.values.proofs.table.first_expression.Goals as goal

pub returns : goal.returns
returns c = rw (c.expressions_at-start.ensures, c.end_at-end.ensures) at c.head.ensures
