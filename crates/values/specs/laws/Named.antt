-- The slots that numbering an instruction looks at.
-- Assumes nothing.
use Rattle.std.specs.Prelude.{◌≡◌, ℕ, ◌<◌}
use Rattle.instruction.specs.declared.Instruction.{Instruction}
use Rattle.instruction.specs.declared.Class.{Class}
use Rattle.instruction.specs.declared.Class.TheVariants.{Hint, LoadInt, LoadConst, Copy, CopyN, Unary, Binary, Jump, JumpIf, JumpIfNot, ForLoop, Return, Panic, Outside, Invalid}

-- the slots that an instruction names one by one, which are those that numbering it looks at, are below s
unfoldable pub Named : Class → ℕ → Instruction → Type 0
Named Hint s i = Unit {0}
Named LoadInt s i = i.a < s
Named LoadConst s i = i.a < s
Named Copy s i = (i.b < s) × (i.a < s)
Named CopyN s i = Unit {0}
Named Unary s i = (i.b < s) × (i.a < s)
Named Binary s i = (i.b < s) × (i.c < s) × (i.a < s)
Named Jump s i = Unit {0}
Named JumpIf s i = i.a < s
Named JumpIfNot s i = i.a < s
Named ForLoop s i = Unit {0}
Named Return s i = i.b ≡ 1 → i.a < s
Named Panic s i = Unit {0}
Named Outside s i = Unit {0}
Named Invalid s i = Unit {0}
