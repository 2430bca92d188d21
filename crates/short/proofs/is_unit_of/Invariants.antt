use mathlib.Core.Path.{◌≡◌}
use Prim.Native.Nat.{ℕ, ◌<◌}
use lib.ListN.{get_or}
use Rattle.short.specs.Short.{unit_at}
use Rattle.short.proofs.is_unit_of.Given as goal

-- the bytes below i are the unit's
abbrev pub invariant-loop-i : goal.invariant-loop-i
invariant-loop-i l = (j : ℕ) → j < l.i → get_or l.unit j 0 ≡ get_or (unit_at l.n l.rank) j 0
