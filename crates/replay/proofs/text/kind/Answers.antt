use Rattle.std.proofs.Common.{rules, sym, ◌∙◌}
use Rattle.replay.proofs.Reading.{kind_c, kind_f, kind_other}
use Rattle.replay.proofs.text.kind.Goals as goal

pub returns-in-99 : goal.returns-in-99
returns-in-99 c = kind_c _ _ (sym c.byte.ensures ∙ c.in-99.is)

pub returns-in-102 : goal.returns-in-102
returns-in-102 c = kind_f _ _ (sym c.byte.ensures ∙ c.in-102.is)

pub returns-in_default : goal.returns-in_default
returns-in_default c = kind_other _ _ (λ e. search (rules, c.byte.ensures ∙ e)) (λ e. search (rules, c.byte.ensures ∙ e))
