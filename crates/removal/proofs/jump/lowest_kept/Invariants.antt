use mathlib.Core.Path.{◌≡◌}
use mathlib.Core.List.{List}
use Prim.Native.Nat.{ℕ, ◌<◌}
use lib.ListN.{get_or}
use Rattle.removal.specs.laws.Next.{kept_from}
use Rattle.removal.proofs.jump.lowest_kept.Given as goal

-- none is kept below p
abbrev pub invariant-loop-p : goal.invariant-loop-p
invariant-loop-p l = (keep : List ℕ) → ((q : ℕ) → q < l.to → get_or l.work q 0 ≡ get_or keep q 0) → kept_from keep l.from ≡ kept_from keep l.p
