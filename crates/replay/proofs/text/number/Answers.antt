use Rattle.std.proofs.Common.{refl, ◌∙◌, arith}
use Rattle.replay.specs.Recorded.{number_at}
use Rattle.replay.proofs.Reading.{number_ends, number_goes_on, number_full}
use Rattle.replay.proofs.text.number.Goals as goal

pub loop-k-init : goal.loop-k-init
unfolding number_at
loop-k-init c = refl

pub returns-then-b-le32 : goal.returns-then-b-le32
returns-then-b-le32 c = number_ends _ _ _ _ _ c.byte-b.ensures c.loop-k-test.true c.if-b-le32.true ∙ c.loop-k.invariant

pub loop-k-preserved : goal.loop-k-preserved
loop-k-preserved c = number_goes_on _ _ _ _ _ c.byte-b.ensures c.loop-k-test.true c.if-b-le32.false ∙ c.loop-k.invariant

pub returns : goal.returns
returns c = number_full _ _ _ _ c.loop-k-test.false ∙ c.loop-k.invariant
