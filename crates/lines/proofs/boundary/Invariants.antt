use Prim.Native.Nat.{◌≤◌}
use Rattle.lines.specs.Lines.{below}
use Rattle.lines.specs.laws.Below.{Rising, places_in}
use Rattle.lines.proofs.boundary.Given as goal

abbrev pub invariant-loop-b : goal.invariant-loop-b
invariant-loop-b l = Rising (places_in l.places) → l.q ≤ below (places_in l.places) l.p → l.b ≤ below (places_in l.places) l.p
