use Rattle.std.specs.Prelude.{Err}
use Rattle.std.proofs.Common.{ap, ◌∙◌, eq-eqb, ne_eqb}
use Rattle.desk.specs.Answer.{frame_check}
use Rattle.desk.proofs.check.check_frame.Goals as goal

pub returns-then-words-locals : goal.returns-then-words-locals
unfolding frame_check
returns-then-words-locals c = record { answer = ap Err c.at.ensures.refusal ∙ rw (ne_eqb _ _ c.if-words-locals.true) }

pub returns : goal.returns
unfolding frame_check
returns c = record { answer = rw (eq-eqb _ _ c.if-words-locals.false) }
