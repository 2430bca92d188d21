use Rattle.std.proofs.lemmas.Result.{err_from_is_err_and}
use Rattle.std.proofs.Common.{sym, ◌∙◌}
use Rattle.desk.proofs.laws.Passed.{passed_run, refused_stop, ran}
use Rattle.desk.proofs.run.Goals as goal

pub advance-reached-requires : goal.advance-reached-requires
advance-reached-requires c =
    let r = passed_run c.args.unit.now _ (sym c.check.ensures.answer ∙ c.in_ok-check.was) in
    record { laid = r.laid; runnable = r.runnable; frame = r.frame }

pub stop_at-requires : goal.stop_at-requires
stop_at-requires c = record { laid = (passed_run c.args.unit.now _ (sym c.check.ensures.answer ∙ c.in_ok-check.was)).laid }

pub returns-in_err-check : goal.returns-in_err-check
returns-in_err-check c =
    let p = err_from_is_err_and c.from_residual.result c.from_residual.ensures.1 in
    let all = refused_stop c.args.unit.now c.args.frame.now c.args.limit _ (sym c.check.ensures.answer ∙ c.in_err-check.was) in
    record { answer = rw (p.1, p.2) all.0; frame = all.1 }

pub returns : goal.returns
returns c =
    let all = ran c.args.unit.now c.args.frame.now (sym c.check.ensures.answer ∙ c.in_ok-check.was) _ _ _ _ _ c.advance-reached.ensures.reached (c.stop_at.ensures.answer _) in
    record { answer = all.0; frame = all.1 }
