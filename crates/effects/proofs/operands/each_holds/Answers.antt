use mathlib.Core.Path.{sym, ap, ◌∙◌}
use Rattle.words.specs.laws.Every.{all_passed, one_failed}
use Rattle.effects.specs.laws.Operands.{range_holds, every_range}
use Rattle.effects.proofs.operands.each_holds.Goals as goal

pub returns-then-not-range_holds : goal.returns-then-not-range_holds
returns-then-not-range_holds g c =
    λ all e known. one_failed _ _ _ c.loop-k-test.true (ap (range_holds _) (sym (known _ _ c.loop-k-test.true c.range.ensures)) ∙ sym c.range_holds.ensures ∙ c.if-not-range_holds.true) ∙ every_range _ _ _ e

pub returns : goal.returns
returns g c = λ all e known. all_passed _ _ _ (c.loop-k.invariant all e known) c.loop-k-test.false ∙ every_range _ _ _ e
