use Rattle.std.proofs.Common.{◌∙◌}
use Rattle.replay.proofs.Reading.{skip_end, skip_found, skip_next}
use Rattle.replay.proofs.text.skip.Goals as goal

pub returns-then-text-i : goal.returns-then-text-i
returns-then-text-i c = skip_found _ _ _ c.loop-i-test.true c.if-text-i.true ∙ c.loop-i.invariant

pub loop-i-preserved : goal.loop-i-preserved
loop-i-preserved c = skip_next _ _ _ c.loop-i-test.true c.if-text-i.false ∙ c.loop-i.invariant

pub returns : goal.returns
returns c = skip_end _ _ _ _ _ c.loop-i-test.false c.loop-i.auto.i-end c.max.ensures c.loop-i.invariant
