use Rattle.std.proofs.Common.{◌≡◌}
use Rattle.desk.specs.laws.Copying.{copied_up}
use Rattle.desk.proofs.copy.copy_up.Given as goal

-- k words are copied
abbrev pub invariant-loop-k : goal.invariant-loop-k
invariant-loop-k l = l.frame ≡ copied_up l.initial.frame l.a l.b l.c l.k
