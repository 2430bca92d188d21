use Rattle.std.proofs.Common.{[], arith}
use Rattle.effects.specs.Shape.{tables_with}
use Rattle.use_def.specs.laws.Touched.{ranging_begin, ranging_fits, ranging_turn}
use Rattle.use_def.proofs.touch.put_each_write.Goals as goal

pub loop-k-init : goal.loop-k-init
loop-k-init c = λ cases. ranging_begin (c.sure_count-n.ensures (tables_with cases c.args.callees) c.args.x.metadata) c.requires.few (c.requires.fit cases)

pub put_range-requires : goal.put_range-requires
put_range-requires c = ranging_fits (c.loop-k.invariant []) _ (omega arith) (c.sure_range-r.ensures [])

pub loop-k-preserved : goal.loop-k-preserved
loop-k-preserved c =
    λ cases. ranging_turn (c.loop-k.invariant cases) _ _ (omega arith) (c.sure_range-r.ensures cases) c.put_range.auto.row c.put_range.ensures
