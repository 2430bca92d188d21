use mathlib.Core.Path.{◌≡◌}
use Prim.Native.Nat.{◌/◌, ◌%◌}
use native.Mathlib.Omega.{arith}
use Rattle.instruction.proofs.Instruction.with_imm32.Goals as goal

pub returns : goal.returns
returns c =
    let high : c.args.v / 65536 % 65536 ≡ c.args.v / 65536 = omega arith in
    rw high
