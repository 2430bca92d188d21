-- Definitions. What an instruction is to the optimizer and to a run: the class of its opcode.
-- Assumes nothing.
use Rattle.std.specs.Prelude.{Bool, true, false, cond, ℕ, eqb, ltb}
use Rattle.words.specs.Lists.{is_in}
use Rattle.instruction.specs.Opcode as op
use Rattle.instruction.specs.declared.Class.{Class}
use Rattle.instruction.specs.declared.Class.TheVariants.{Hint, LoadInt, LoadConst, Copy, CopyN, Unary, Binary, Jump, JumpIf, JumpIfNot, ForLoop, Return, Panic, Outside, Invalid}

-- the opcodes that are a class of their own; all others are "outside"
unfoldable pub single : ℕ → Class
single o =
    cond (eqb o op.Hint) Hint
    (cond (eqb o op.LoadInt) LoadInt
    (cond (eqb o op.LoadConst) LoadConst
    (cond (eqb o op.Copy) Copy
    (cond (eqb o op.CopyN) CopyN
    (cond (eqb o op.Jump) Jump
    (cond (eqb o op.JumpIf) JumpIf
    (cond (eqb o op.JumpIfNot) JumpIfNot
    (cond (eqb o op.ForLoop) ForLoop
    (cond (eqb o op.Return) Return
    (cond (eqb o op.Panic) Panic
    Outside))))))))))

unfoldable pub class_of : ℕ → Class
class_of o =
    cond (ltb op.max_valid o) Invalid
    (cond (is_in o op.unary) Unary
    (cond (is_in o op.binary) Binary
    (single o)))

-- the classes numbered in their order, and back
unfoldable pub number_of : Class → ℕ
number_of Hint = 0
number_of LoadInt = 1
number_of LoadConst = 2
number_of Copy = 3
number_of CopyN = 4
number_of Unary = 5
number_of Binary = 6
number_of Jump = 7
number_of JumpIf = 8
number_of JumpIfNot = 9
number_of ForLoop = 10
number_of Return = 11
number_of Panic = 12
number_of Outside = 13
number_of Invalid = 14

unfoldable pub named_class : ℕ → Class
named_class k =
    cond (eqb k 0) Hint
    (cond (eqb k 1) LoadInt
    (cond (eqb k 2) LoadConst
    (cond (eqb k 3) Copy
    (cond (eqb k 4) CopyN
    (cond (eqb k 5) Unary
    (cond (eqb k 6) Binary
    (cond (eqb k 7) Jump
    (cond (eqb k 8) JumpIf
    (cond (eqb k 9) JumpIfNot
    (cond (eqb k 10) ForLoop
    (cond (eqb k 11) Return
    (cond (eqb k 12) Panic
    (cond (eqb k 13) Outside
    Invalid)))))))))))))

-- "The 51 pure opcodes are the 10 in `unary`, the 37 in `binary`, Copy, CopyN, LoadInt, LoadConst"
unfoldable pub is_pure : Class → Bool
is_pure Hint = false
is_pure LoadInt = true
is_pure LoadConst = true
is_pure Copy = true
is_pure CopyN = true
is_pure Unary = true
is_pure Binary = true
is_pure Jump = false
is_pure JumpIf = false
is_pure JumpIfNot = false
is_pure ForLoop = false
is_pure Return = false
is_pure Panic = false
is_pure Outside = false
is_pure Invalid = false
