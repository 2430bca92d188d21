use mathlib.Core.Path.{◌≡◌}
use Prim.Native.Nat.{ℕ, ◌-◌, ◌/◌, ◌^◌, ◌<◌}
use Rattle.short.specs.Short.{unit_at}
use Rattle.short.proofs.rank.Given as goal

-- what is read so far is the rank without the digits of the instructions left
abbrev pub invariant-loop-p : goal.invariant-loop-p
invariant-loop-p l = (l.rank < 24 ^ l.p) × ((k : ℕ) → k < 24 ^ l.n → l.unit ≡ unit_at l.n k → l.rank ≡ k / 24 ^ (l.n - l.p))
