use Rattle.std.proofs.Common.{ℕ, List}
use Rattle.effects.specs.Shape.{tables_with}
use Rattle.effects.specs.Effects.{sure_writes}
use Rattle.use_def.specs.laws.Touched.{Ranging}
use Rattle.use_def.proofs.touch.put_each_write.Given as goal

abbrev pub invariant-loop-k : goal.invariant-loop-k
invariant-loop-k l = (cases : List ℕ) → Ranging l.on (sure_writes (tables_with cases l.callees) l.x) l.n l.initial.row l.row l.k
