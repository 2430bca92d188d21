use Rattle.std.proofs.Common.{◌≡◌, ℕ, ◌+◌, ◌<◌, true}
use Rattle.use_def.specs.laws.Free.{free_slot}
use Rattle.use_def.proofs.dead.each_free.Given as goal

abbrev pub invariant-loop-k : goal.invariant-loop-k
invariant-loop-k l = ((j : ℕ) → j < l.k → free_slot l.types l.row (l.start + j) ≡ true)
