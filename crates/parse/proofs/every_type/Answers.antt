use mathlib.Core.Path.{refl}
use Rattle.words.specs.Lists.{every}
use Rattle.unit.specs.Entry.{good_type, type_at}
use Rattle.parse.proofs.Sweeping.{every_more}
use Rattle.parse.proofs.every_type.Goals as goal

pub loop-it-init : goal.loop-it-init
unfolding every
loop-it-init c = refl

pub loop-it-preserved : goal.loop-it-preserved
loop-it-preserved c = every_more c.loop-it.it-index (λ j. good_type (type_at c.args.section.now j)) c.loop-it.good _ c.loop-it.invariant refl
