use Rattle.std.proofs.Common.{true}
use Rattle.effects.specs.Shape.{tables_in}
use Rattle.effects.specs.Effects.{all_reads}
use Rattle.use_def.specs.laws.Touched.{Ranging}
use Rattle.use_def.proofs.touch.put_each_read.Given as goal

abbrev pub invariant-loop-k : goal.invariant-loop-k
invariant-loop-k l = Ranging true (all_reads (tables_in l.tables) l.x) l.n l.initial.row l.row l.k
