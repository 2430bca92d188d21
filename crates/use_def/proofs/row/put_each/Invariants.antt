use Rattle.use_def.specs.laws.Sets.{Putting}
use Rattle.use_def.proofs.row.put_each.Given as goal

abbrev pub invariant-loop-k : goal.invariant-loop-k
invariant-loop-k l = Putting l.on l.start l.initial.row l.row l.k
