use Rattle.std.specs.Prelude.{Ok}
use mathlib.Core.Path.{ap, ◌∙◌}
use Rattle.std.proofs.lemmas.Result.{err_from_is_err_and}
use Rattle.optimize.specs.laws.Decided.{decided_relocatable, answers_written, answers_decided_unchanged, answers_decided_refused}
use Rattle.optimize.proofs.function.optimize.Goals as goal

pub write-requires-clause-held : goal.write-requires-clause-held
write-requires-clause-held c = decided_relocatable (c.decide.ensures.answer, c.decide.ensures.holds) _ (c.in_ok-answer.was ∙ ap Ok c.in-Rewritten.is)

pub returns-in_err-answer : goal.returns-in_err-answer
returns-in_err-answer c =
    let p = err_from_is_err_and c.from_residual.result c.from_residual.ensures.1 in
    record { answers = rw (p.1, p.2) (answers_decided_refused (c.decide.ensures.answer, c.decide.ensures.holds) _ _ _ c.in_err-answer.was) }

pub returns-in-Rewritten : goal.returns-in-Rewritten
returns-in-Rewritten c =
    record { answers = rw c.in-Rewritten.is (answers_written (c.decide.ensures.answer, c.decide.ensures.holds) _ _ _ (c.in_ok-answer.was ∙ ap Ok c.in-Rewritten.is) c.write.ensures.written) }

pub returns-in_default : goal.returns-in_default
returns-in_default c =
    record { answers = rw c.in_default.is (answers_decided_unchanged (c.decide.ensures.answer, c.decide.ensures.holds) _ (c.in_ok-answer.was ∙ ap Ok c.in_default.is)) }
