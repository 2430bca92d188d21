use mathlib.Core.Path.{◌≡◌}
use Prim.Native.Nat.{zero-le}
use native.Mathlib.Omega.{arith}
use Rattle.words.specs.laws.Keys.{past}
use Rattle.short.proofs.instruction.Goals as goal

pub returns-in_default : goal.returns-in_default
returns-in_default c =
    let low = past 0 23 zero-le c.in_default.in_default-own.rest in
    let last : c.args.d ≡ 23 = omega (arith, c.requires) in
    rw last c.new-in_default.ensures
