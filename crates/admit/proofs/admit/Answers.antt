use Rattle.std.proofs.lemmas.Result.{err_from_is_err_and}
use mathlib.Core.Path.{sym, ◌∙◌}
use native.Mathlib.Omega.{arith}
use Rattle.answer.specs.Answer.{lent_of}
use Rattle.admit.specs.laws.Rows.{admit_refused, admit_laid, counts_fit}
use Rattle.admit.proofs.admit.Goals as goal

pub has_room-requires : goal.has_room-requires
has_room-requires c = let all = counts_fit _ _ (sym c.check.ensures ∙ c.in_ok-h.was) (λ i. omega (arith, c.type_inv.unit i)) in record { instructions = all.0; locals = all.1.0; lines = all.1.1 }

pub returns-in_err-h : goal.returns-in_err-h
returns-in_err-h c = let p = err_from_is_err_and c.from_residual.result c.from_residual.ensures.1 in record { answer = rw (p.1, p.2) (admit_refused _ _ _ _ (sym c.check.ensures ∙ c.in_err-h.was)) }

pub returns : goal.returns
returns c = let a = c.args in record { answer = admit_laid a.unit.now _ (lent_of a.out a.work32 a.work64) _ _ (sym c.check.ensures ∙ c.in_ok-h.was) c.has_room.ensures.answer c.admit_counts.ensures.answer }
