use Rattle.pc_map.proofs.Bounding.{Bounding}
use Rattle.pc_map.proofs.boundary.boundaries.Given as goal

abbrev pub invariant-loop-p : goal.invariant-loop-p
invariant-loop-p l = Bounding l.initial.work l.n l.work l.next l.p
