use Rattle.std.proofs.Common.{◌-◌, ◌≡◌, ◌≤◌}
use Rattle.short.specs.Short.{short_count}
use Rattle.survey.specs.Survey.{counted}
use Rattle.survey.specs.declared.AnswerKind.TheVariants.{Unchanged, Rewritten, Refused}
use Rattle.survey.proofs.count_all.Given as goal

abbrev pub invariant-loop-number : goal.invariant-loop-number
invariant-loop-number l =
    (l.t.unchanged ≡ counted Unchanged l.number) × (l.t.rewritten ≡ counted Rewritten l.number) × (l.t.refused ≡ counted Refused l.number)
