-- Definitions. Branches and their targets.
-- Assumes nothing.
use Rattle.std.specs.Prelude.{ℕ, suc, ◌+◌, ◌%◌, ◌^◌, Bool, true, false, cond, List, length, nat_lt}
use Rattle.instruction.specs.declared.Instruction.{Instruction}
use Rattle.instruction.specs.declared.Class.{Class}
use Rattle.instruction.specs.declared.Class.TheVariants.{Hint, LoadInt, LoadConst, Copy, CopyN, Unary, Binary, Jump, JumpIf, JumpIfNot, ForLoop, Return, Panic, Outside, Invalid}
use Rattle.instruction.specs.Instruction.{imm32, for_loop_distance, class}
use Rattle.unit.specs.Refusal.{branch_outside}
use Rattle.effects.specs.Check.{Check}
use Rattle.effects.specs.Shape.{Cell}
use Rattle.effects.specs.Check.{lowest}

-- may the next step be at the next place?
unfoldable pub falls : Class → Bool
falls Hint = true
falls LoadInt = true
falls LoadConst = true
falls Copy = true
falls CopyN = true
falls Unary = true
falls Binary = true
falls Jump = false
falls JumpIf = true
falls JumpIfNot = true
falls ForLoop = true
falls Return = false
falls Panic = false
falls Outside = true
falls Invalid = false

-- may it be at a branch's target?
unfoldable pub branches : Class → Bool
branches Hint = false
branches LoadInt = false
branches LoadConst = false
branches Copy = false
branches CopyN = false
branches Unary = false
branches Binary = false
branches Jump = true
branches JumpIf = true
branches JumpIfNot = true
branches ForLoop = true
branches Return = false
branches Panic = false
branches Outside = false
branches Invalid = false

-- The target of a branch at place p: a jump's distance counts from its own place, ForLoop's from the next. Distances are
-- signed words, so a target below 0 is a number far past every place.
unfoldable pub target_by : Class → ℕ → Instruction → ℕ
target_by Hint p i = suc p
target_by LoadInt p i = suc p
target_by LoadConst p i = suc p
target_by Copy p i = suc p
target_by CopyN p i = suc p
target_by Unary p i = suc p
target_by Binary p i = suc p
target_by Jump p i = (p + imm32 i) % 2 ^ 64
target_by JumpIf p i = (p + imm32 i) % 2 ^ 64
target_by JumpIfNot p i = (p + imm32 i) % 2 ^ 64
target_by ForLoop p i = (suc p + for_loop_distance i) % 2 ^ 64
target_by Return p i = suc p
target_by Panic p i = suc p
target_by Outside p i = suc p
target_by Invalid p i = suc p

abbrev pub target : ℕ → Instruction → ℕ
target p i = target_by (class i) p i

-- a branch goes to one of the places 0 to n - 1, or is none
unfoldable pub branch_inside : ℕ → ℕ → Instruction → Bool
branch_inside n p i = cond (branches (class i)) (nat_lt (target p i) n) true

-- refusal 8 over the places 0 to m - 1: as many as the cells, or one more where a branch may go to the end of the code
unfoldable pub branch_check_in : ℕ → List Cell → Check
branch_check_in m cells = lowest (λ p x. cond (branch_inside m p x.instruction) 0 branch_outside) 0 cells

-- refusal 8: "lowest branch leaving 0 to n − 1, unreachable ones too"
abbrev pub branch_check : List Cell → Check
branch_check cells = branch_check_in (length cells) cells
