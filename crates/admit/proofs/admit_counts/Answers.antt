use Rattle.std.proofs.lemmas.Result.{err_from_is_err_and}
use Rattle.std.specs.Prelude.{Err}
use mathlib.Core.Path.{sym, ap, ◌∙◌}
use Rattle.admit.specs.laws.Rows.{rows_skipped, rows_short, rows_refused, rows_admitted}
use Rattle.admit.proofs.admit_counts.Goals as goal

pub returns-then-is_skipped : goal.returns-then-is_skipped
returns-then-is_skipped c = record { answer = rows_skipped _ _ (sym c.is_skipped.ensures.answer ∙ c.if-is_skipped.true) }

pub returns-then-not-room : goal.returns-then-not-room
returns-then-not-room c = record { answer = ap Err c.at.ensures.refusal ∙ rows_short _ _ (sym c.is_skipped.ensures.answer ∙ c.if-is_skipped.false) c.if-not-room.true }

pub returns-in_err-check_counts : goal.returns-in_err-check_counts
returns-in_err-check_counts c =
    let p = err_from_is_err_and c.from_residual.result c.from_residual.ensures.1 in
    record { answer = rw (p.1, p.2) (rows_refused _ _ (sym c.is_skipped.ensures.answer ∙ c.if-is_skipped.false) c.if-not-room.false _ _ (sym c.check_counts.ensures.answer ∙ c.in_err-check_counts.was)) }

pub returns : goal.returns
returns c = record { answer = rows_admitted _ _ (sym c.is_skipped.ensures.answer ∙ c.if-is_skipped.false) c.if-not-room.false (sym c.check_counts.ensures.answer ∙ c.in_ok-check_counts.was) }
