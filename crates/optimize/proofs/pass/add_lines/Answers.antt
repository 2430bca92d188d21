use borrow.Author.Rules.{rules}
use Rattle.std.specs.Prelude.{Ok, ◌≡◌}
use mathlib.Core.Path.{ap, sym, ◌∙◌}
use Rattle.optimize.specs.declared.Answer.TheVariants.{Rewritten, Unchanged}
use Rattle.optimize.specs.laws.Lines.{linable_to, lined_unchanged, lined_refused, lined_rewritten}
use Rattle.optimize.proofs.pass.add_lines.Goals as goal

pub returns-in-Ok-Rewritten : goal.returns-in-Ok-Rewritten
returns-in-Ok-Rewritten c =
    let a = c.args in
    let z : c.in-Ok-Rewritten.field-0 ≡ Rewritten c.in-Ok-Rewritten.k = search rules in
    record { lined = λ o before answers moves. lined_rewritten a.unit.now o _ before a.out.now answers _ (c.in-Ok-Rewritten.is ∙ ap Ok z) moves _ _ c.lines.ensures c.write_lines.ensures }

pub returns-in-Ok-Unchanged : goal.returns-in-Ok-Unchanged
returns-in-Ok-Unchanged c =
    let a = c.args in
    let z : c.in-Ok-Unchanged.field-0 ≡ Unchanged = search rules in
    record { lined = λ o before w m. lined_unchanged a.unit.now o _ before a.out.now w (c.in-Ok-Unchanged.is ∙ ap Ok z) }

pub returns-in-Err : goal.returns-in-Err
returns-in-Err c =
    let a = c.args in record { lined = λ o before w m. lined_refused a.unit.now o _ before a.out.now w _ _ c.in-Err.is }
