use Rattle.std.proofs.Common.{◌∙◌, arith}
use Rattle.operand.proofs.Testing.{gives_it, gives_none}
use Rattle.operand.proofs.tested.Goals as goal

pub returns-then-fold_word-wanted : goal.returns-then-fold_word-wanted
returns-then-fold_word-wanted c = λ covered candidate. gives_it _ _ covered candidate (omega arith) (omega (arith, c.fold_word.ensures))

pub returns-else-fold_word-wanted : goal.returns-else-fold_word-wanted
returns-else-fold_word-wanted c = λ covered candidate. gives_none _ _ covered candidate (λ e. c.if-fold_word-wanted.false (c.fold_word.ensures ∙ e))
