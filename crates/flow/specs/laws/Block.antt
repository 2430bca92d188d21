-- Laws of Block.
-- Assumes nothing.
use Rattle.std.specs.Prelude.{◌≡◌, false, refl}
use Rattle.instruction.specs.declared.Class.{Class}
use Rattle.instruction.specs.declared.Class.TheVariants.{Hint, LoadInt, LoadConst, Copy, CopyN, Unary, Binary, Jump, JumpIf, JumpIfNot, ForLoop, Return, Panic, Outside, Invalid}
use Rattle.flow.specs.Branch.{branches}
use Rattle.flow.specs.Block.{ends_block}

-- a branch ends its block
pub no_branch : (x : Class) → ends_block x ≡ false → branches x ≡ false
unfolding ends_block branches
no_branch Hint e = refl
no_branch LoadInt e = refl
no_branch LoadConst e = refl
no_branch Copy e = refl
no_branch CopyN e = refl
no_branch Unary e = refl
no_branch Binary e = refl
no_branch Jump e = cc
no_branch JumpIf e = cc
no_branch JumpIfNot e = cc
no_branch ForLoop e = cc
no_branch Return e = refl
no_branch Panic e = refl
no_branch Outside e = refl
no_branch Invalid e = refl
