use Rattle.std.proofs.lemmas.Result.{err_from_is_err_and}
use Rattle.std.proofs.Common.{sym, ◌∙◌, arith}
use Rattle.desk.proofs.laws.Passed.{passed_run, refused_step, step_went, step_stopped, step_place}
use Rattle.desk.proofs.step.Goals as goal

pub advance-reached-requires : goal.advance-reached-requires
advance-reached-requires c =
    let r = passed_run c.args.unit.now _ (sym c.check.ensures.answer ∙ c.in_ok-check.was) in
    record { laid = r.laid; runnable = r.runnable; frame = r.frame }

pub overflow_cast-result : goal.overflow_cast-result
overflow_cast-result c =
    omega
    (arith, step_place c.args.unit.now c.args.frame.now (sym c.check.ensures.answer ∙ c.in_ok-check.was) _ _ _ _ c.advance-reached.ensures.reached (λ i. omega (arith, c.type_inv.unit i)) c.if-reached-eq0.true)

pub returns-then-reached-eq0 : goal.returns-then-reached-eq0
returns-then-reached-eq0 c =
    let all = step_went c.args.unit.now c.args.frame.now (sym c.check.ensures.answer ∙ c.in_ok-check.was) _ _ _ _ c.advance-reached.ensures.reached c.if-reached-eq0.true in
    record { answer = all.0; frame = all.1 }

pub stop_at-requires : goal.stop_at-requires
stop_at-requires c = record { laid = (passed_run c.args.unit.now _ (sym c.check.ensures.answer ∙ c.in_ok-check.was)).laid }

pub returns-in_err-check : goal.returns-in_err-check
returns-in_err-check c =
    let p = err_from_is_err_and c.from_residual.result c.from_residual.ensures.1 in
    let all = refused_step c.args.unit.now c.args.frame.now c.args.place _ (sym c.check.ensures.answer ∙ c.in_err-check.was) in
    record { answer = rw (p.1, p.2) all.0; frame = all.1 }

pub returns : goal.returns
returns c =
    let all =
    step_stopped c.args.unit.now c.args.frame.now (sym c.check.ensures.answer ∙ c.in_ok-check.was) _ _ _ _ c.advance-reached.ensures.reached _ (omega (arith, c.if-reached-eq0.false)) (c.stop_at.ensures.answer _) in
    record { answer = all.0; frame = all.1 }
