use Rattle.std.proofs.Common.{◌≡◌, ◌-◌, length}
use Rattle.replay.specs.Recorded.{skipped}
use Rattle.replay.proofs.text.skip.Given as goal

abbrev pub invariant-loop-i : goal.invariant-loop-i
invariant-loop-i l = skipped l.text l.i l.last ≡ skipped l.text l.at l.last
