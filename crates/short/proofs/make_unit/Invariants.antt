use Rattle.short.proofs.Making.{Written}
use Rattle.short.proofs.make_unit.Given as goal

abbrev pub invariant-loop-i : goal.invariant-loop-i
invariant-loop-i l = Written l.n l.rank l.end l.initial.out l.out l.i
