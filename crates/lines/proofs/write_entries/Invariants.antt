use mathlib.Core.Path.{◌≡◌}
use Prim.Native.Nat.{◌≤◌}
use lib.ListN.{length}
use Rattle.lines.specs.laws.Moving.{Swept}
use Rattle.lines.proofs.write_entries.Given as goal

abbrev pub invariant-loop-j : goal.invariant-loop-j
invariant-loop-j l = (l.count ≤ l.j) × (l.q ≤ l.k) × (length l.out ≡ length l.initial.out) × Swept l.k l.lines l.initial.out l.out l.j l.q l.count
