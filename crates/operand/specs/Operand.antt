-- Definitions. An operand for a wanted outcome (document 02, L8). "The definition searches nothing: it states only that the outcome matches and no
-- smaller word does, or for none that no word does."
-- Assumes nothing.
use Rattle.std.specs.Prelude.{◌≡◌, ℕ, ◌^◌, ◌<◌, true, false, ◌≢◌, Result, Ok, Err, Option, Some, None}
use Rattle.words.specs.Lists.{is_in}
use Rattle.values.specs.Fold.{fold_word, folding_binary}
use Rattle.operand.specs.declared.NotCovered.{NotCovered}

-- "the smallest right word, unsigned, that gives it"
pub record Smallest (f : ℕ → ℕ) (wanted r : ℕ) : Type 0 where
  pub word : r < 2 ^ 64
  pub gives : f r ≡ wanted
  pub least : (s : ℕ) → s < r → f s ≢ wanted

-- "or none if there is none"
abbrev pub Never : (ℕ → ℕ) → ℕ → Type 0
Never f wanted = (s : ℕ) → s < 2 ^ 64 → f s ≢ wanted

-- "given one of the 17 integer binary opcodes, the left word and the wanted word"; "other opcodes yield 'not covered'". The fold is
-- document 01's, whose flags these opcodes do not read.
unfoldable pub RightOperand : ℕ → ℕ → ℕ → Result (Option ℕ) NotCovered → Type 0
RightOperand o left wanted (Ok (Some r)) = (is_in o folding_binary ≡ true) × Smallest (fold_word o 0 left) wanted r
RightOperand o left wanted (Ok None) = (is_in o folding_binary ≡ true) × Never (fold_word o 0 left) wanted
RightOperand o left wanted (Err e) = is_in o folding_binary ≡ false
