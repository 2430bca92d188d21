-- A check of all places that looks at the control places alone, since it refuses none of the others.
-- Assumes nothing.
use Rattle.std.specs.Prelude.{Err, ◌≡◌, ℕ, ◌+◌, ◌<◌, ◌≤◌, false, List, length, ◌≢◌, slice_index, slice_index_or, refl}
use Rattle.std.proofs.Common.{sym, arith}
use Rattle.instruction.specs.Instruction.{class, of_word}
use Rattle.effects.specs.Check.{Passed}
use Rattle.unit.specs.declared.refusal.Reason.{Reason}
use Rattle.unit.specs.declared.refusal.Refusal.{Refusal}
use Rattle.unit.specs.Refusal.{reason_number, refusal, Refused}
use Rattle.effects.specs.Shape.{Cell}
use Rattle.effects.specs.laws.Cells.{cell_of, cells_by}
use Rattle.effects.specs.Check.{lowest}
use Rattle.effects.specs.laws.Unrefused.{Unrefused, refused_first, refused_none, refused_later, refused_here, refused_with}
use Rattle.flow.specs.laws.Control.{is_control, Controls, at_control, control_inside, skip_first, skip_next, skip_last}

-- no place before the k-th of the list is refused
abbrev pub Swept : (ℕ → Cell → ℕ) → List ℕ → List ℕ → List ℕ → ℕ → Type 0
Swept test words metadata list k = Unrefused test words metadata (slice_index_or list k (length words))

module _ {test : ℕ → Cell → ℕ} {words metadata list : List ℕ} (c : Controls words list (length words))
    (idle : (p w : ℕ) → is_control (class (of_word w)) ≡ false → test p (cell_of metadata p w) ≡ 0) where
  step : (p : ℕ) → p < length words → is_control (class (of_word (slice_index words p))) ≡ false → Unrefused test words metadata p → Unrefused test words metadata (p + 1)
  step p h e u = refused_later u h (sym (idle p (slice_index words p) e)) refl

  pub swept_first : Swept test words metadata list 0
  swept_first = skip_first c (Unrefused test words metadata) step refused_first

  module _ {k : ℕ} (u : Swept test words metadata list k) where
    pub swept_none : length list ≤ k → Passed ≡ lowest test 0 (cells_by words metadata)
    swept_none h = refused_none (skip_last c (Unrefused test words metadata) step k h u) (omega arith)

    module _ (h : k < length list) {r : ℕ} (e : r ≡ test (slice_index list k) (cell_of metadata (slice_index list k) (slice_index words (slice_index list k)))) where
      here : Unrefused test words metadata (slice_index list k)
      here = at_control c (Unrefused test words metadata) k h u

      pub swept_later : r ≡ 0 → Swept test words metadata list (k + 1)
      swept_later z = skip_next c (Unrefused test words metadata) step k h (refused_later here (control_inside c k h) e z)

      pub swept_here : (r ≢ 0) → Refused r (slice_index list k) ≡ lowest test 0 (cells_by words metadata)
      swept_here z = refused_here here (control_inside c k h) e z

      pub swept_with : (x : Reason) {z : Refusal} → r ≡ reason_number x → z ≡ refusal (reason_number x) (slice_index list k) → Err z ≡ lowest test 0 (cells_by words metadata)
      swept_with x q s = refused_with here (control_inside c k h) e x q s
