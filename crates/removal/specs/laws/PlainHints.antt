-- The loop of `drop_hints`.
-- Assumes nothing.
use Rattle.std.specs.Prelude.{◌≡◌, refl, Bool, false, List, ℕ, ◌+◌, ◌<◌, length, get_or, take}
use Rattle.std.proofs.Common.{sym, ap, ◌∙◌, arith}
use Rattle.std.proofs.Math.Seq.{take-length}
use Rattle.instruction.specs.Instruction.{class, of_word}
use Rattle.effects.specs.laws.Cells.{cells_by}
use Rattle.flow.specs.laws.Control.{is_control, no_plain_hint}
use Rattle.flow.specs.Loop.{is_plain_hint}
use Rattle.answer.specs.Pass.{useful_places}
use Rattle.removal.specs.laws.Cleared.{Cleared, step_off, cleared_up, cleared_cells}

abbrev pub hint_at : List ℕ → ℕ → Bool
hint_at words p = is_plain_hint (of_word (get_or words p 0))

-- what is no control place is no plain hint
pub hints_idle : (words keep₀ keep : List ℕ) (p : ℕ) → p < length words → is_control (class (of_word (get_or words p 0))) ≡ false → Cleared (hint_at words) keep₀ keep 0 p → Cleared (hint_at words) keep₀ keep 0 (p + 1)
hints_idle words keep₀ keep p h e c = cleared_up c (omega arith) (step_off p (c.rest p (λ a b. omega arith)) (no_plain_hint (of_word (get_or words p 0)) e))

pub hints_dropped : (words keep₀ keep metadata : List ℕ) → length keep₀ ≡ length words → Cleared (hint_at words) keep₀ keep 0 (length words) → keep ≡ useful_places keep₀ (cells_by words metadata)
unfolding useful_places
hints_dropped words keep₀ keep metadata e c =
    let whole : (l : List ℕ) → length l ≡ length words → take (length words) l ≡ l = λ l f. rw (← f) (take-length l) in
    sym (whole keep (c.long ∙ e))
    ∙ cleared_cells (hint_at words) keep₀ words metadata (λ p x. is_plain_hint x.instruction) (λ p h. refl) keep (omega arith) c
    ∙ ap (λ (l : List ℕ). useful_places l (cells_by words metadata)) (whole keep₀ e)
