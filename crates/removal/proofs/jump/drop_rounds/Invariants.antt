use Prim.Native.Nat.{◌-◌}
use Rattle.removal.specs.laws.JumpRounds.{Rounding}
use Rattle.removal.proofs.jump.drop_rounds.Given as goal

abbrev pub invariant-loop : goal.invariant-loop
invariant-loop l = Rounding l.words l.initial.work l.work (16 - l.counter)
