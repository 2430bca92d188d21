use Prim.Native.Nat.{ℕ, ◌+◌, ◌-◌}
use mathlib.Core.Path.{◌≡◌}
use native.Mathlib.Omega.{arith}
use Rattle.again.proofs.copy.Goals as goal

part_long : (at n : ℕ) → at + n - at ≡ n
part_long at n = omega arith

pub returns : goal.returns
returns c =
    let a = c.args in
    record { to = rw (c.copy.ensures, part_long a.at a.n, part_long a.start a.n) }
