use Rattle.std.proofs.Common.{◌≡◌, ℕ, ◌<◌, Bool, not, ◌&&◌, ltb, leb, refl, arith}
use mathlib.Core.Bool.{beq}
use Rattle.words.specs.Lists.{every}
use Rattle.words.specs.laws.Lists.{every_at}
use Rattle.words.specs.laws.Truth.{beq_true}
use Rattle.instruction.specs.Class.{single, class_of, number_of}
use Rattle.instruction.specs.Opcode.{max_valid}
use Rattle.flow.specs.Block.{ends_block}
use Rattle.flow.specs.Branch.{falls}
use Rattle.flow.specs.laws.Successors.{goes_on}
use Rattle.flow.proofs.reach.goes_on.Goals as goal

-- the code tests by the number, and says the same of each byte
abbrev tested : ℕ → Bool
tested o = not (ends_block (class_of o)) && ltb 0 o && leb o max_valid

each : (o : ℕ) → o < 256 → tested o ≡ goes_on o
unfolding every goes_on ends_block falls class_of single number_of
each o h = beq_true (tested o) (goes_on o) (every_at 256 (λ o. beq (tested o) (goes_on o)) refl o h)

pub returns : goal.returns
returns c = rw c.ends_block.ensures (each c.args.op (omega arith))
