-- What is due at an instruction, by the place that it goes to and the frame after it.
-- Assumes nothing.
use Rattle.std.specs.Prelude.{Option, Some, None, ◌≡◌, ℕ, ◌+◌, ◌^◌, ◌<◌, ◌≤◌, Bool, true, false, List}
use Rattle.instruction.specs.declared.Instruction.{Instruction}
use Rattle.instruction.specs.declared.Class.TheVariants.{CopyN}
use Rattle.instruction.specs.Instruction.{instruction_at, class}
use Rattle.unit.specs.declared.Constant.{Constant}
use Rattle.unit.specs.declared.Constant.TheVariants.{Nil, Bool as BoolConstant, Int, Float, String}
use Rattle.values.specs.laws.Named.{Named}
use Rattle.desk.specs.Desk.{Due, goes, stops, not_executed, due_by}

-- what is due at a place of a code section
abbrev pub due_in : List ℕ → List ℕ → ℕ → List ℕ → Due
due_in code constants p f = due_by constants (class (instruction_at code p)) p (instruction_at code p) f

-- the place that is due next; 2^32, which is no place, where the run stops
unfoldable pub goes_to : Due → ℕ
goes_to (goes q g) = q
goes_to (stops s) = 2 ^ 32
goes_to not_executed = 2 ^ 32

-- the frame then
unfoldable pub frame_after : List ℕ → Due → List ℕ
frame_after f (goes q g) = g
frame_after f (stops s) = f
frame_after f not_executed = f

-- an instruction at place p whose slots are those of a frame of s words
pub record Executable (s p : ℕ) (i : Instruction) : Type 0 where
  pub place : p + 1 < 2 ^ 32
  pub named : Named (class i) s i
  pub read : class i ≡ CopyN → 0 < i.c → i.b + i.c ≤ s
  pub written : class i ≡ CopyN → 0 < i.c → i.a + i.c ≤ s

-- where a constant has a word, LoadConst is executed
unfoldable pub has_word : Option Constant → Bool
has_word (Some Nil) = true
has_word (Some (BoolConstant v)) = true
has_word (Some (Int v)) = true
has_word (Some (Float v)) = true
has_word (Some String) = false
has_word None = false
