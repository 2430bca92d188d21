use Rattle.std.proofs.Common.{◌≡◌}
use Rattle.desk.specs.laws.Copying.{copied_down}
use Rattle.desk.proofs.copy.copy_down.Given as goal

-- all but the first k words are copied
abbrev pub invariant-loop-k : goal.invariant-loop-k
invariant-loop-k l = l.frame ≡ copied_down l.initial.frame l.a l.b l.c l.k
