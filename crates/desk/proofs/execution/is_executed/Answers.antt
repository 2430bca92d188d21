use Rattle.std.proofs.Common.{sym, ◌∙◌}
use Rattle.desk.specs.Desk.{due_by}
use Rattle.desk.proofs.laws.Execution.{loads_executed, cond_executed}
use Rattle.desk.specs.laws.Stands.{is_executed}
use Rattle.desk.proofs.execution.is_executed.Goals as goal

pub returns-in-LoadConst : goal.returns-in-LoadConst
unfolding due_by is_executed
returns-in-LoadConst c = record { answer = λ f. (c.has_word.ensures.answer ∙ rw (c.constant.ensures, ← c.read-i.ensures, sym c.class.ensures ∙ c.in-LoadConst.is) (loads_executed _ _ f _)) }

pub returns-in-Unary : goal.returns-in-Unary
unfolding due_by is_executed
returns-in-Unary c = record { answer = λ f. (c.folds_unary.ensures ∙ rw (← c.read-i.ensures, sym c.class.ensures ∙ c.in-Unary.is) (cond_executed _ _ _)) }

pub returns-in-Binary : goal.returns-in-Binary
unfolding due_by is_executed
returns-in-Binary c = record { answer = λ f. (c.folds_binary.ensures ∙ rw (← c.read-i.ensures, sym c.class.ensures ∙ c.in-Binary.is) (cond_executed _ _ _)) }
