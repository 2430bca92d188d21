use mathlib.Core.Path.{◌≡◌}
use Prim.Native.Nat.{ℕ, ◌<◌}
use Rattle.instruction.specs.Instruction.{to_word}
use Rattle.short.specs.Short.{short_at}
use Rattle.short.proofs.index.Given as goal

-- no instruction below d has the word
abbrev pub invariant-loop-d : goal.invariant-loop-d
invariant-loop-d l = (e : ℕ) → e < l.d → l.w ≡ to_word (short_at e) → ⊥
