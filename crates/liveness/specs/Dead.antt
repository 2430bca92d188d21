-- Definitions. "dead pure stores (all slots Value or Float, none live; empty CopyN too)"
-- Assumes nothing.
use Rattle.std.specs.Prelude.{Option, None, Some, Bool, false, cond, not, ◌&&◌, List, [], ◌∷◌, ℕ, suc, ◌+◌, length, get_or}
use Rattle.words.specs.Lists.{every}
use Rattle.instruction.specs.Class.{is_pure}
use Rattle.instruction.specs.Instruction.{class}
use Rattle.effects.specs.declared.Range.{Range}
use Rattle.effects.specs.Shape.{Sections, Cell}
use Rattle.effects.specs.Effects.{writes, all_of}
use Rattle.values.specs.Number.{is_scalar}
use Rattle.pc_map.specs.Boundary.{is_kept}
use Rattle.liveness.specs.Live.{Row, live_before, live_after, live_rows}

-- no slot of the range is live, and all are scalar
unfoldable pub unread : Sections → Row → Range → Bool
unread S after r = every r.count (λ k. is_scalar S (r.start + k) && not (get_or after (r.start + k) false))

unfoldable pub is_dead : Sections → Cell → Row → Bool
is_dead S x after = let free = all_of (unread S after) (writes S.tables x) in cond (is_pure (class x.instruction)) free false

-- the kept places of the cells from p on without the dead stores, and what is live before p; a dropped store's reads do not count
pub record Swept : Type 0 where
  pub keep : List ℕ
  pub before : Row

module _ (S : Sections) (n : ℕ) (leaders keep : List ℕ) (rows : List Row) where
  unfoldable pub swept_at : Cell → Bool → Row → Swept → Swept
  swept_at x kept after r =
      let stays : Swept = record { keep = 1 ∷ r.keep; before = live_before S.tables x after } in
      let goes : Swept = record { keep = 0 ∷ r.keep; before = after } in
      cond kept (cond (is_dead S x after) goes stays) goes

  unfoldable pub sweep_from : ℕ → List Cell → Swept
  sweep_from p [] = record { keep = []; before = [] }
  sweep_from p (x ∷ xs) =
      let r = sweep_from (suc p) xs in
      swept_at x (is_kept keep p) (live_after S n leaders keep rows p x r.before) r

-- the kept places without dead stores, or as they were where dead stores are skipped
unfoldable pub without_dead : Sections → List ℕ → List ℕ → List Cell → Option (List Row) → List ℕ
without_dead S leaders keep cells None = keep
without_dead S leaders keep cells (Some rows) = (sweep_from S (length cells) leaders keep rows 0 cells).keep

unfoldable pub dead_stores : Sections → List ℕ → List ℕ → List Cell → List ℕ
dead_stores S leaders keep cells = without_dead S leaders keep cells (live_rows S leaders keep cells)
