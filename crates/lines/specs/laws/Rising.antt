-- The lines of a unit rise.
-- Assumes nothing.
use Rattle.std.specs.Prelude.{◌≡◌, true, List, ℕ, zero, suc, ◌+◌, ◌-◌, ◌/◌, ◌<◌, length}
use Rattle.std.proofs.Common.{arith, ltb-true, lt-ltb}
use Rattle.words.specs.Lists.{every}
use Rattle.words.specs.laws.Lists.{every_at, length_tabulate, get_d_tabulate}
use Rattle.unit.specs.Entry.{line_at, good_line, lines_in}
use Rattle.unit.specs.Layout.{header_of, lines_of, is_unit, lines_rise}
use Rattle.unit.specs.Size.{line_size}
use Rattle.unit.proofs.laws.UnitLaws.{unit_laid}
use Rattle.lines.specs.laws.Moving.{RisingLines, no_line}

-- each place is below the next
next_above : (n : ℕ) (l : List ℕ) (k : ℕ) → good_line n l k ≡ true → suc k < length l / line_size → (line_at l k).place < (line_at l (suc k)).place
unfolding good_line
next_above n l k e h = ltb-true (line_at l k).place (line_at l (suc k)).place (rw (lt-ltb (suc k) (length l / line_size) h) at e)

-- and so below all that follow
module _ (n : ℕ) (l : List ℕ) (good : every (length l / line_size) (λ k. good_line n l k) ≡ true) where
  above : (i d : ℕ) → suc (i + d) < length l / line_size → (line_at l i).place < (line_at l (suc (i + d))).place
  above i zero h =
      let same : i + 0 ≡ i = omega arith in
      rw same (next_above n l i (every_at (length l / line_size) _ good i (omega arith)) (omega arith))
  above i (suc d) h =
      let same : i + suc d ≡ suc (i + d) = omega arith in
      let low = above i d (omega arith) in
      let step = next_above n l (suc (i + d)) (every_at (length l / line_size) _ good (suc (i + d)) (omega arith)) (omega arith) in
      rw same (omega arith)

  pub lines_rising : RisingLines (lines_in l)
  lines_rising i j h e =
      let last : j < length l / line_size = rw (length_tabulate (length l / line_size) (line_at l)) at e in
      let there : j ≡ suc (i + (j - suc i)) = omega arith in
      let first = get_d_tabulate (length l / line_size) (line_at l) i no_line (omega arith) in
      let second = get_d_tabulate (length l / line_size) (line_at l) j no_line last in
      rw (first, second, there) (above i (j - suc i) (omega arith))

pub unit_lines : (u : List ℕ) → is_unit u ≡ true → lines_rise u ≡ true → RisingLines (lines_in (lines_of u))
unfolding lines_rise
unit_lines u laid rise =
    let many : length (lines_of u) / line_size ≡ (header_of u).counts.lines = let e = (unit_laid u laid).lengths.lines in omega arith in
    lines_rising (header_of u).counts.instructions (lines_of u) (rw many rise)
