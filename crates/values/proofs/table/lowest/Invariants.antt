use Rattle.values.specs.laws.Memory.{memory_of}
use Rattle.values.proofs.Scanning.{Passed}
use Rattle.std.proofs.Common.{length}
use Rattle.values.proofs.table.lowest.Given as goal

abbrev pub invariant-loop-r : goal.invariant-loop-r
invariant-loop-r l = Passed l.types (memory_of l.n (length l.types) l.t) l.d l.kind l.exact l.from l.to l.r
