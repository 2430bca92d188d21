use Rattle.std.proofs.lemmas.Result.{err_from_is_err_and}
use Rattle.std.proofs.Common.{refl, sym, ◌∙◌}
use Rattle.desk.specs.Answer.{and_then}
use Rattle.desk.specs.Charge.{charge_check}
use Rattle.desk.proofs.check.check_charge.Goals as goal

pub returns-in_err-check : goal.returns-in_err-check
unfolding charge_check and_then
returns-in_err-check c =
    let p = err_from_is_err_and c.from_residual.result c.from_residual.ensures.1 in record { answer = rw (p.1, p.2) (rw (sym c.check.ensures.answer ∙ c.in_err-check.was) refl) }

pub returns : goal.returns
unfolding charge_check and_then
returns c = record { answer = rw (sym c.check.ensures.answer ∙ c.in_ok-check.was) c.check_tariff.ensures.answer }
