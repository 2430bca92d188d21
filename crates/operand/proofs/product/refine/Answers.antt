use native.Mathlib.Omega.{arith}
use Rattle.std.specs.Prelude.{refl}
use Rattle.operand.proofs.Newton.{refined}
use Rattle.operand.proofs.product.refine.Goals as goal

pub returns : goal.returns
returns c = refined _ _ _ refl (omega arith) refl
