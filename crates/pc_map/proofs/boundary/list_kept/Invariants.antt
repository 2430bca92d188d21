use Rattle.pc_map.proofs.Listing.{Listing}
use Rattle.pc_map.proofs.boundary.list_kept.Given as goal

abbrev pub invariant-loop-p : goal.invariant-loop-p
invariant-loop-p l = Listing l.initial.work l.n l.at l.work l.next l.p
