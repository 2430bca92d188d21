-- Where a step may go, and what decides what it does.
-- Assumes nothing.
use Rattle.std.specs.Prelude.{◌≡◌, ℕ, suc}
use Rattle.std.proofs.Math.Bool.{true}
use Rattle.instruction.specs.declared.Instruction.{Instruction}
use Rattle.instruction.specs.declared.Class.{Class}
use Rattle.flow.specs.Branch.{falls, branches, target_by}

-- the places that may come after place p: the next, or a branch's target
pub data Succ (k : Class) (p : ℕ) (i : Instruction) : ℕ → Type 0 where
  next : falls k ≡ true → Succ k p i (suc p)
  branch : branches k ≡ true → Succ k p i (target_by k p i)
