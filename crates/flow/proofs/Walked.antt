-- The walk of `mark_reached` in one buffer: n marks, and after them the stack.
-- Assumes nothing.
use Rattle.std.proofs.Common.{◌≡◌, ℕ, ◌+◌, ◌*◌, ◌<◌, ◌≤◌, List, length, set, replicate, sym, refl, ap, ◌∙◌, add-zero, zero-add, arith, length-set}
use lib.ListN.{length-replicate}
use borrow.Rule.Slice.PartMut.{mid_of, put_mid}
use Rattle.words.specs.laws.Regions.{mid_long, mid_set, mid_set_after, mid_put, put_long, Outside, outside_same, outside_set, outside_part, outside_then, outside_put}
use Rattle.unit.specs.laws.Region.{stack_end}
use Rattle.flow.specs.Reach.{reached}
use Rattle.flow.specs.laws.Stack.{marks_of, stack_of, Walked, stand_begin, stand_end}

module _ (n : ℕ) (next : ℕ → List ℕ) where
  -- what the walk starts from: no marks, and place 0 on the stack
  module _ (xs zeros : List ℕ) (room : stack_end n ≤ length xs) (k : ℕ) (same : k ≡ n) (e : zeros ≡ replicate (length (mid_of 0 k xs)) 0) where
    zeros_long : length zeros ≡ k
    zeros_long = ap length e ∙ length-replicate (length (mid_of 0 k xs)) 0 ∙ mid_long xs 0 k (omega arith)

    pub first_long : length (set (put_mid 0 k xs zeros) n 0) ≡ length xs
    first_long = length-set (put_mid 0 k xs zeros) n 0 ∙ put_long xs 0 k zeros zeros_long (omega arith)

    pub first_outside : Outside 0 (stack_end n) xs (set (put_mid 0 k xs zeros) n 0)
    first_outside =
        let part : Outside 0 (stack_end n) xs (put_mid 0 k xs zeros) = outside_part 0 (stack_end n) (outside_same 0 (stack_end n) xs) 0 k (4 * n + 4) zeros (omega arith) (omega arith) zeros_long (omega arith) in
        outside_set 0 (stack_end n) part n 0 (omega arith) (omega arith)

    pub walked_begin : 0 < n → Walked n next (set (put_mid 0 k xs zeros) n 0) (set (put_mid 0 k xs zeros) n 0) 1
    walked_begin some =
        let ys = put_mid 0 k xs zeros in
        let long : length ys ≡ length xs = put_long xs 0 k zeros zeros_long (omega arith) in
        let zero_marks : zeros ≡ replicate n 0 = e ∙ ap (λ (j : ℕ). replicate j 0) (mid_long xs 0 k (omega arith) ∙ same) in
        let back : marks_of n ys ≡ zeros = ap (λ (j : ℕ). mid_of 0 j ys) (sym same) ∙ mid_put xs 0 k zeros zeros_long (omega arith) in
        let marks : marks_of n (set ys n 0) ≡ replicate n 0 = (rw (zero-add n) at (mid_set_after ys 0 n n 0 (omega arith))) ∙ back ∙ zero_marks in
        let stack : stack_of n (set ys n 0) ≡ set (stack_of n ys) 0 0 = rw (add-zero n) at (mid_set ys n (4 * n + 4) 0 0 (omega arith)) in
        let high : length (stack_of n ys) ≡ 4 * n + 4 = mid_long ys n (4 * n + 4) (omega arith) in
        record {
          long = refl;
          outside = outside_same 0 (stack_end n) (set ys n 0);
          standing = rw (marks, stack) (stand_begin n next (stack_of n ys) some (omega arith));
        }

  pub walked_few : {xs w : List ℕ} {sp : ℕ} → stack_end n ≤ length w → Walked n next xs w sp → sp ≤ 4 * n + 4
  walked_few {xs} {w} room b = rw (mid_long w n (4 * n + 4) (omega arith)) at b.standing.fits

  -- the walk went on from where it came to
  pub walked_then : {xs w w' : List ℕ} {sp r : ℕ} → Walked n next xs w sp → Walked n next w w' r → Walked n next xs w' r
  walked_then b c = record { long = c.long ∙ b.long; outside = outside_then 0 (stack_end n) b.outside c.outside; standing = c.standing }

  pub walked_end : (xs₀ xs w : List ℕ) → Outside 0 (stack_end n) xs₀ xs → Walked n next xs w 0
      → (marks_of n w ≡ reached n next) × (w ≡ put_mid 0 (stack_end n) xs₀ (mid_of 0 (stack_end n) w))
  walked_end xs₀ xs w o b = (stand_end n next b.standing, outside_put 0 (stack_end n) (outside_then 0 (stack_end n) o b.outside))
