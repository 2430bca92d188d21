-- Definitions. "A block starts at place 0, at each branch target, and after each Jump, JumpIf, JumpIfNot, ForLoop, Return and Panic."
-- Assumes nothing.
use Rattle.std.specs.Prelude.{ℕ, suc, ◌-◌, Bool, true, false, cond, ◌||◌, List, [], ◌∷◌, length, take, ◌==◌}
use Rattle.words.specs.Lists.{is_in, tabulate, sum}
use Rattle.instruction.specs.declared.Class.{Class}
use Rattle.instruction.specs.declared.Class.TheVariants.{Hint, LoadInt, LoadConst, Copy, CopyN, Unary, Binary, Jump, JumpIf, JumpIfNot, ForLoop, Return, Panic, Outside, Invalid}
use Rattle.instruction.specs.Instruction.{class}
use Rattle.effects.specs.Shape.{Cell}
use Rattle.flow.specs.Branch.{branches, target}

-- a block ends after these
unfoldable pub ends_block : Class → Bool
ends_block Hint = false
ends_block LoadInt = false
ends_block LoadConst = false
ends_block Copy = false
ends_block CopyN = false
ends_block Unary = false
ends_block Binary = false
ends_block Jump = true
ends_block JumpIf = true
ends_block JumpIfNot = true
ends_block ForLoop = true
ends_block Return = true
ends_block Panic = true
ends_block Outside = false
ends_block Invalid = false

-- the targets of all branches, of cells that stand from place p on
unfoldable pub branch_targets : ℕ → List Cell → List ℕ
branch_targets p [] = []
branch_targets p (x ∷ xs) =
    let rest = branch_targets (suc p) xs in
    cond (branches (class x.instruction)) (target p x.instruction ∷ rest) rest

-- the places after an instruction that ends a block
unfoldable pub block_ends : ℕ → List Cell → List ℕ
block_ends p [] = []
block_ends p (x ∷ xs) = let rest = block_ends (suc p) xs in cond (ends_block (class x.instruction)) (suc p ∷ rest) rest

unfoldable pub is_leader : List Cell → ℕ → Bool
is_leader cells p = p == 0 || is_in p (branch_targets 0 cells) || is_in p (block_ends 0 cells)

-- 1 for each place where a block starts, 0 for any other
unfoldable pub leaders : List Cell → List ℕ
leaders cells = tabulate (length cells) (λ p. cond (is_leader cells p) 1 0)

-- the number of blocks, and of the block that a place is in
abbrev pub block_count : List ℕ → ℕ
block_count marks = sum marks

abbrev pub block_of : List ℕ → ℕ → ℕ
block_of marks p = sum (take (suc p) marks) - 1
