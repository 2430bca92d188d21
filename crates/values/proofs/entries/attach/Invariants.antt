use Rattle.std.proofs.Common.{◌-◌}
use Rattle.values.specs.laws.Attaching.{Descent}
use Rattle.values.proofs.entries.attach.Given as goal

abbrev pub invariant-loop-w : goal.invariant-loop-w
invariant-loop-w l = Descent l.initial.w l.w l.h l.count l.first l.left l.path l.p

abbrev pub decreases-loop-w : goal.decreases-loop-w
decreases-loop-w l = l.count - l.p
