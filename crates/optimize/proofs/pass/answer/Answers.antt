use Rattle.std.specs.Prelude.{Ok}
use mathlib.Core.Path.{sym, ap, ◌∙◌}
use Rattle.std.proofs.lemmas.Result.{err_from_is_err_and}
use Rattle.answer.specs.Answer.{pass_answer}
use Rattle.run.proofs.Given.{admitted_worked}
use Rattle.optimize.specs.laws.Given.{answers_unchanged, answers_refused, answers_same}
use Rattle.optimize.specs.laws.Whole.{answer_refused, answer_unchanged, answer_admitted}
use Rattle.optimize.proofs.pass.answer.Goals as goal

pub work-requires : goal.work-requires
work-requires c = record { admitted = admitted_worked _ _ (sym c.admit.ensures.answer ∙ c.in_ok-admit.was ∙ ap Ok c.in-Admitted.is) }

pub returns-in-Unchanged : goal.returns-in-Unchanged
unfolding pass_answer
returns-in-Unchanged c =
    record { answers = answers_unchanged _ _ (answer_unchanged _ _ (sym c.admit.ensures.answer ∙ c.in_ok-admit.was ∙ ap Ok c.in-Unchanged.is)) }

pub returns-in_err-admit : goal.returns-in_err-admit
unfolding pass_answer
returns-in_err-admit c =
    let p = err_from_is_err_and c.from_residual.result c.from_residual.ensures.1 in
    record { answers = rw (p.1, p.2) (answers_refused _ _ _ _ (answer_refused _ _ _ _ (sym c.admit.ensures.answer ∙ c.in_err-admit.was))) }

pub returns-in-Admitted : goal.returns-in-Admitted
unfolding pass_answer
returns-in-Admitted c =
    record { answers = answers_same _ _ _ _ _ (answer_admitted _ _ (sym c.admit.ensures.answer ∙ c.in_ok-admit.was ∙ ap Ok c.in-Admitted.is)) c.work.ensures.answers }
