use Rattle.values.specs.laws.Entries.{key}
use Rattle.values.specs.laws.Search.{ahead, Walk}
use Rattle.values.proofs.entries.find.Given as goal

abbrev pub invariant-loop-p : goal.invariant-loop-p
invariant-loop-p l = Walk l.w l.h l.count (key l.left l.right) l.path l.p

abbrev pub decreases-loop-p : goal.decreases-loop-p
decreases-loop-p l = ahead l.count l.p
