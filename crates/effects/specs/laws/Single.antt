-- Loads, copies and operators: they write slot a, and of single slots they read b and c at most. Most code is made of them, and its
-- operands are checked by comparisons alone.
-- Assumes nothing.
use Rattle.std.specs.Prelude.{Bool, not, ◌&&◌, ◌||◌, [], ◌∷◌, ℕ, ltb}
use Rattle.words.specs.Lists.{is_in}
use Rattle.instruction.specs.Class.{number_of}
use Rattle.instruction.specs.declared.Instruction.{Instruction}
use Rattle.instruction.specs.declared.Class.{Class}

-- LoadInt, LoadConst, Copy, Unary, Binary
abbrev pub is_single : Class → Bool
is_single k = is_in (number_of k) (1 ∷ 2 ∷ 3 ∷ 5 ∷ 6 ∷ [])

-- Copy, Unary, Binary
abbrev pub reads_first : Class → Bool
reads_first k = is_in (number_of k) (3 ∷ 5 ∷ 6 ∷ [])

-- Binary
abbrev pub reads_second : Class → Bool
reads_second k = is_in (number_of k) (6 ∷ [])

-- no slot that it names is at or past s
abbrev pub single_within : ℕ → Class → Instruction → Bool
single_within s k i = (not (reads_first k) || ltb i.b s) && (not (reads_second k) || ltb i.c s) && ltb i.a s
