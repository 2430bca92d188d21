use Rattle.optimize.specs.laws.Loading.{Loaded}
use Rattle.optimize.proofs.code.is_same.Given as goal

abbrev pub invariant-loop-p : goal.invariant-loop-p
invariant-loop-p l = Loaded l.code l.words l.p
