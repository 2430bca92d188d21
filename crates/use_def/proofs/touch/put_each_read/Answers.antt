use Rattle.std.proofs.Common.{arith}
use Rattle.effects.specs.Shape.{tables_in}
use Rattle.use_def.specs.laws.Touched.{ranging_begin, ranging_fits, ranging_turn}
use Rattle.use_def.proofs.touch.put_each_read.Goals as goal

pub loop-k-init : goal.loop-k-init
loop-k-init c = ranging_begin (c.read_count-n.ensures (tables_in c.args.tables)) c.requires.0 c.requires.2

pub put_range-requires : goal.put_range-requires
put_range-requires c = ranging_fits c.loop-k.invariant _ (omega arith) c.read_range-r.ensures

pub loop-k-preserved : goal.loop-k-preserved
loop-k-preserved c =
    ranging_turn c.loop-k.invariant _ _ (omega arith) c.read_range-r.ensures c.put_range.auto.row c.put_range.ensures
