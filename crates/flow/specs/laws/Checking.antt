-- A check of all places passes exactly if no place is refused.
-- Assumes nothing.
use Rattle.std.specs.Prelude.{◌≡◌, ℕ, suc, ◌+◌, ◌<◌, List, [], ◌∷◌, length, slice_index, refl}
use Rattle.std.proofs.Common.{sym, ap, ◌∙◌, add-zero, zero-add, add-suc, suc-add, arith, eq-eqb}
use Rattle.effects.specs.Check.{Passed}
use Rattle.effects.specs.Shape.{Cell, cell_at}
use Rattle.effects.specs.laws.Cells.{cell_of, cells_by, cells_long, cell_at_lem}
use Rattle.effects.specs.Check.{lowest}
use Rattle.effects.specs.laws.Sound.{lowest_passed}

pub lowest_all : (test : ℕ → Cell → ℕ) (p : ℕ) (cells : List Cell) → ((k : ℕ) → k < length cells → test (p + k) (cell_at cells k) ≡ 0) → lowest test p cells ≡ Passed
unfolding lowest
lowest_all test p [] f = refl
lowest_all test p (x ∷ xs) f =
    let here : test p x ≡ 0 = rw add-zero at (f 0 (omega arith)) in
    rw (eq-eqb (test p x) 0 here) (lowest_all test (suc p) xs (λ k h. rw (suc-add p k, ← add-suc p k) (f (suc k) (omega arith))))

module _ (test : ℕ → Cell → ℕ) (words metadata : List ℕ) where
  pub passed_at : lowest test 0 (cells_by words metadata) ≡ Passed → (p : ℕ) → p < length words → test p (cell_of metadata p (slice_index words p)) ≡ 0
  passed_at e p h =
      ap (test p) (sym (cell_at_lem words metadata p h))
      ∙ (rw zero-add at (lowest_passed test 0 (cells_by words metadata) e p (rw (cells_long words metadata) h)))

  pub all_passed : ((p : ℕ) → p < length words → test p (cell_of metadata p (slice_index words p)) ≡ 0) → lowest test 0 (cells_by words metadata) ≡ Passed
  all_passed f =
      lowest_all test 0 (cells_by words metadata) (λ p h.
      let lt : p < length words = rw cells_long at h in
      rw zero-add (ap (test p) (cell_at_lem words metadata p lt) ∙ f p lt))
