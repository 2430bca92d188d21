use Prim.Native.Nat.{◌-◌, ◌≤◌}
use lib.ListN.{length}
use Rattle.removal.specs.laws.JumpRounds.{Walked}
use Rattle.removal.proofs.jump.drop_idle.Given as goal

abbrev pub invariant-loop-place : goal.invariant-loop-place
invariant-loop-place l = (length l.yielded ≤ length l.list) × Walked l.words l.list l.initial.work l.work l.dropped l.next l.end (length l.list - length l.yielded)
