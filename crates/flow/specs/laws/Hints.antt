-- Loops over the loop hints in lent memory.
-- Assumes nothing.
use Rattle.std.specs.Prelude.{◌≡◌, ℕ, suc, ◌+◌, ◌<◌, Bool, true, false, cond, ◌&&◌, List, [], ◌∷◌, ◌++◌, length, drop, replicate, ◌==◌, slice_index, refl}
use Rattle.std.proofs.Common.{sym, ap, ◌∙◌, add-one, drop-cons}
use Rattle.std.proofs.Math.Bool.{and-false}
use Rattle.std.proofs.Math.Seq.{drop-length}
use Rattle.instruction.specs.Instruction.{class, of_word}
use Rattle.unit.specs.Refusal.{unsound_loop}
use Rattle.effects.specs.Shape.{Cell, cell_at, no_cell}
use Rattle.effects.specs.laws.Cells.{cell_of, cells_by, cells_long, cell_at_lem}
use Rattle.flow.specs.laws.Control.{is_control, no_loop_hint}
use Rattle.flow.specs.Loop.{is_loop_hint, is_sound, loop_end, loop_ends, anchors}
use Rattle.flow.specs.laws.Marking.{mark_append}
use Rattle.flow.specs.Reach.{mark_all}

-- the test of `loop_check`
abbrev pub loop_test : List ℕ → ℕ → ℕ → Cell → ℕ
loop_test marks n p x = cond (slice_index marks p == 1 && is_loop_hint x.instruction) (cond (is_sound n x) 0 unsound_loop) 0

-- the end that one cell anchors
abbrev pub anchored : List ℕ → ℕ → Cell → List ℕ
anchored marks p x = cond (slice_index marks p == 1 && is_loop_hint x.instruction) (loop_end x ∷ []) []

ends_cons : (marks : List ℕ) (p : ℕ) (x : Cell) (xs : List Cell) → loop_ends p marks (x ∷ xs) ≡ anchored marks p x ++ loop_ends (suc p) marks xs
unfolding loop_ends
ends_cons marks p x xs = go (slice_index marks p == 1 && is_loop_hint x.instruction) (loop_end x) (loop_ends (suc p) marks xs)
  where
    go : (t : Bool) (e : ℕ) (rest : List ℕ) → cond t (e ∷ rest) rest ≡ cond t (e ∷ []) [] ++ rest
    go true e rest = refl
    go false e rest = refl

-- what is marked below place p, and what is left make the anchors
abbrev pub Anchoring : List ℕ → List ℕ → List ℕ → List ℕ → ℕ → Type 0
Anchoring words metadata marks ends p = mark_all ends (loop_ends p marks (drop p (cells_by words metadata))) ≡ anchors marks (cells_by words metadata)

module _ (words metadata marks : List ℕ) where
  pub anchoring_begin : (zeros : List ℕ) (k : ℕ) → zeros ≡ replicate k 0 → k ≡ length words → Anchoring words metadata marks zeros 0
  unfolding anchors
  anchoring_begin zeros k e h = rw (e, h, ← cells_long words metadata)

  pub anchoring_turn : (ends ends' : List ℕ) (p : ℕ) → Anchoring words metadata marks ends p → p < length words
      → ends' ≡ mark_all ends (anchored marks p (cell_of metadata p (slice_index words p))) → Anchoring words metadata marks ends' (p + 1)
  anchoring_turn ends ends' p e h next =
      let cells = cells_by words metadata in
      let inside : p < length cells = rw (cells_long words metadata) h in
      rw (add-one p, next)
      (ap (λ (x : Cell). mark_all (mark_all ends (anchored marks p x)) (loop_ends (suc p) marks (drop (suc p) cells))) (sym (cell_at_lem words metadata p h))
      ∙ sym (mark_append ends (anchored marks p (cell_at cells p)) (loop_ends (suc p) marks (drop (suc p) cells)))
      ∙ ap (mark_all ends) (sym (ends_cons marks p (cell_at cells p) (drop (suc p) cells)))
      ∙ (rw (drop-cons cells p no_cell inside) at e))

  -- what is no control place anchors nothing
  pub anchoring_idle : (ends : List ℕ) (p : ℕ) → p < length words → is_control (class (of_word (slice_index words p))) ≡ false → Anchoring words metadata marks ends p → Anchoring words metadata marks ends (p + 1)
  unfolding mark_all
  anchoring_idle ends p h e a = anchoring_turn ends ends p a h (rw (no_loop_hint (of_word (slice_index words p)) e, and-false (slice_index marks p == 1)))

  pub anchoring_end : (ends : List ℕ) (p : ℕ) → Anchoring words metadata marks ends p → p ≡ length words → ends ≡ anchors marks (cells_by words metadata)
  unfolding loop_ends mark_all
  anchoring_end ends p e h = rw (h, ← cells_long words metadata, drop-length (cells_by words metadata)) at e
