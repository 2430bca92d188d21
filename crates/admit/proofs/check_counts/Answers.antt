use Rattle.std.specs.Prelude.{Err}
use mathlib.Core.Path.{ap, ◌∙◌}
use Rattle.admit.specs.laws.Rows.{counts_metadata, counts_types, counts_passed}
use Rattle.admit.proofs.check_counts.Goals as goal

pub returns-then-c : goal.returns-then-c
returns-then-c c = record { answer = ap Err c.at.ensures.refusal ∙ counts_metadata c.args.c c.if-c.true }

pub returns-then-c-2 : goal.returns-then-c-2
returns-then-c-2 c = record { answer = ap Err c.at-then-c-2.ensures.refusal ∙ counts_types c.args.c c.if-c.false c.if-c-2.true }

pub returns : goal.returns
returns c = record { answer = counts_passed c.args.c c.if-c.false c.if-c-2.false }
