-- Bits of joined rows, and that every row that is found has a bit for each slot.
-- Assumes nothing.
use Rattle.std.proofs.Math.Path.{◌≡◌}
use Rattle.std.specs.Prelude.{Some, refl, Bool, ◌||◌, List, get_or}
use Rattle.std.proofs.Common.{◌∙◌, arith}
use Rattle.std.proofs.Math.Bool.{true, false, cond}
use Rattle.std.proofs.lemmas.Bool.{false≢true}
use Prim.Native.Nat.{ℕ, zero, suc}
use Rattle.effects.specs.Shape.{Sections, Cell}
use Rattle.flow.specs.Block.{block_of}
use Rattle.liveness.specs.Live.{Row, no_row, joined, round_from, solve_in, same_rows}
use Rattle.liveness.specs.laws.Rows.{bit, union_bit, Wide, round_wide}
use Rattle.run.specs.laws.Frame.{In, here, there}

pub or_left : (a b : Bool) → a ≡ true → (a || b) ≡ true
or_left true b e = refl
or_left false b e = absurd (false≢true e)

pub or_right : (a b : Bool) → b ≡ true → (a || b) ≡ true
or_right true b e = refl
or_right false b e = e

module _ (S : Sections) (n : ℕ) (leaders keep : List ℕ) where
  pub joined_bit : (rows : List Row) {q : ℕ} {qs : List ℕ} (s : ℕ) → In q qs → bit (get_or rows (block_of leaders q) (no_row S n leaders keep)) s ≡ true
      → bit (joined S n leaders keep rows qs) s ≡ true
  unfolding joined
  joined_bit rows s (here {l = l}) e = union_bit _ (joined S n leaders keep rows l) s ∙ or_left _ _ e
  joined_bit rows s (there {t = t} {l = l} i) e =
      union_bit (get_or rows (block_of leaders t) (no_row S n leaders keep)) (joined S n leaders keep rows l) s
      ∙ or_right (bit (get_or rows (block_of leaders t) (no_row S n leaders keep)) s) (bit (joined S n leaders keep rows l) s) (joined_bit rows s i e)

  -- all rounds keep rows wide
  pub solve_wide : (k : ℕ) (cells : List Cell) (rows found : List Row) → Wide S n leaders keep rows → solve_in S n leaders keep k cells rows ≡ Some found → Wide S n leaders keep found
  unfolding solve_in
  solve_wide zero cells rows found w e = let z : ◌≡◌ {A = ℕ} 0 1 = cc in absurd (omega arith)
  solve_wide (suc k) cells rows found w e =
      go (same_rows rows (round_from S n leaders keep 0 cells rows).rows) e (solve_wide k cells (round_from S n leaders keep 0 cells rows).rows found (round_wide S n leaders keep 0 cells rows w).0)
    where
      go : (t : Bool) → cond t (Some (round_from S n leaders keep 0 cells rows).rows) (solve_in S n leaders keep k cells (round_from S n leaders keep 0 cells rows).rows) ≡ Some found
          → (solve_in S n leaders keep k cells (round_from S n leaders keep 0 cells rows).rows ≡ Some found → Wide S n leaders keep found) → Wide S n leaders keep found
      go true e ih = let f : (round_from S n leaders keep 0 cells rows).rows ≡ found = cc in rw (← f) (round_wide S n leaders keep 0 cells rows w).0
      go false e ih = ih e
