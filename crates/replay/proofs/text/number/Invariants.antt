use Rattle.std.proofs.Common.{◌≡◌, ◌≤◌, ◌-◌}
use Rattle.replay.specs.Recorded.{number_from, number_at}
use Rattle.replay.proofs.text.number.Given as goal

abbrev pub invariant-loop-k : goal.invariant-loop-k
invariant-loop-k l = (number_from (9 - l.k) l.text l.at l.k l.v ≡ number_at l.text l.at)
