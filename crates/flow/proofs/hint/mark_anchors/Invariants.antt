use Rattle.std.proofs.Common.{length, get_or}
use Rattle.flow.proofs.Anchored.{Anchored}
use Rattle.flow.proofs.hint.mark_anchors.Given as goal

abbrev pub invariant-loop-place : goal.invariant-loop-place
invariant-loop-place l = Anchored l.words l.metadata l.initial.work l.at l.work (get_or l.list l.place-index (length l.words))
