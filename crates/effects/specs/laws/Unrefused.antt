-- A loop that looks, upward, for the lowest refused place: none below p is refused, so what is left decides. Of any cells, and of
-- those in lent memory.
-- Assumes nothing.
use Rattle.std.specs.Prelude.{Err, ◌≡◌, refl, List, ◌∷◌, ℕ, suc, ◌+◌, ◌≤◌, ◌<◌, get_or, drop}
use Rattle.std.proofs.Common.{sym, ap, ◌∙◌, add-one, drop-cons}
use native.Mathlib.Omega.{arith}
use Rattle.std.proofs.Math.ListN.{length}
use Rattle.std.proofs.Math.Seq.{drop-length}
use borrow.Author.Tests.{eq-eqb, ne_eqb}
use Rattle.effects.specs.Check.{Passed}
use Rattle.unit.specs.declared.refusal.Reason.{Reason}
use Rattle.unit.specs.declared.refusal.Refusal.{Refusal}
use Rattle.unit.specs.Refusal.{reason_number, refusal, Refused}
use Rattle.unit.specs.laws.Refusals.{some_number}
use Rattle.effects.specs.Shape.{Cell, cell_at, no_cell}
use Rattle.effects.specs.laws.Cells.{cell_of, cells_by, cells_long, cell_at_lem}
use Rattle.effects.specs.Check.{lowest}

pub record Clear (test : ℕ → Cell → ℕ) (cells : List Cell) (p : ℕ) : Type 0 where
  pub within : p ≤ length cells
  pub decides : lowest test p (drop p cells) ≡ lowest test 0 cells

pub clear_first : {test : ℕ → Cell → ℕ} {cells : List Cell} → Clear test cells 0
clear_first = record { within = omega arith; decides = refl }

module _ {test : ℕ → Cell → ℕ} {cells : List Cell} {p : ℕ} (u : Clear test cells p) where
  pub clear_none : length cells ≤ p → Passed ≡ lowest test 0 cells
  unfolding lowest
  clear_none h =
      let end : p ≡ length cells = let a = u.within in omega arith in
      rw (end, drop-length cells) at u.decides

  module _ (h : p < length cells) {r : ℕ} (e : r ≡ test p (cell_at cells p)) where
    split : drop p cells ≡ cell_at cells p ∷ drop (suc p) cells
    split = drop-cons cells p no_cell h

    pub clear_later : r ≡ 0 → Clear test cells (p + 1)
    unfolding lowest
    clear_later z = record { within = omega arith; decides = rw (add-one p) (rw (split, ← e, eq-eqb r 0 z) at u.decides) }

    pub clear_here : (r ≡ 0 → ⊥) → Refused r p ≡ lowest test 0 cells
    unfolding lowest
    clear_here z = rw (split, ← e, ne_eqb r 0 z) at u.decides

    -- the same, of a reason and of the refusal that the code makes of it
    pub clear_with : (x : Reason) {z : Refusal} → r ≡ reason_number x → z ≡ refusal (reason_number x) p → Err z ≡ lowest test 0 cells
    clear_with x q s = ap Err (s ∙ ap (λ k. refusal k p) (sym q)) ∙ clear_here (λ f. let a = some_number x in omega (arith, q, f))

-- the cells in lent memory
pub record Unrefused (test : ℕ → Cell → ℕ) (words metadata : List ℕ) (p : ℕ) : Type 0 where
  pub clear : Clear test (cells_by words metadata) p

pub refused_first : {test : ℕ → Cell → ℕ} {words metadata : List ℕ} → Unrefused test words metadata 0
refused_first = record { clear = clear_first }

module _ {test : ℕ → Cell → ℕ} {words metadata : List ℕ} {p : ℕ} (u : Unrefused test words metadata p) where
  pub refused_none : length words ≤ p → Passed ≡ lowest test 0 (cells_by words metadata)
  refused_none h = clear_none u.clear (rw (cells_long words metadata) h)

  module _ (h : p < length words) {r : ℕ} (e : r ≡ test p (cell_of metadata p (get_or words p 0))) where
    inside : p < length (cells_by words metadata)
    inside = rw (cells_long words metadata) h

    tested : r ≡ test p (cell_at (cells_by words metadata) p)
    tested = e ∙ ap (test p) (sym (cell_at_lem words metadata p h))

    pub refused_later : r ≡ 0 → Unrefused test words metadata (p + 1)
    refused_later z = record { clear = clear_later u.clear inside tested z }

    pub refused_here : (r ≡ 0 → ⊥) → Refused r p ≡ lowest test 0 (cells_by words metadata)
    refused_here z = clear_here u.clear inside tested z

    pub refused_with : (x : Reason) {z : Refusal} → r ≡ reason_number x → z ≡ refusal (reason_number x) p → Err z ≡ lowest test 0 (cells_by words metadata)
    refused_with x q s = clear_with u.clear inside tested x q s
