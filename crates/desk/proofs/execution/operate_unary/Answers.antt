use Rattle.std.proofs.Common.{◌∙◌}
use Rattle.desk.proofs.execution.operate_unary.Goals as goal

pub returns : goal.returns
returns c = record { place = c.store.ensures.place; frame = c.store.ensures.frame ∙ rw c.fold_word-w.ensures }
