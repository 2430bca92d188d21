-- The loop of `boundaries`: what is stored after p places. The flags stand before the boundaries.
-- Assumes nothing.
use Rattle.std.proofs.Common.{◌≡◌, ℕ, ◌+◌, ◌*◌, ◌<◌, ◌≤◌, List, length, get_or, set, sym, refl, ap, ◌∙◌, zero-add, arith}
use borrow.Rule.Slice.PartMut.{mid_of, put_mid, put_same}
use Rattle.words.specs.Lists.{sum, tabulate}
use Rattle.words.specs.laws.Lists.{sum_take, length_tabulate}
use Rattle.words.specs.laws.Regions.{mid_long, get_mid, put_long, get_before, tabulate_turn}
use Rattle.flow.specs.laws.Flags.{Flags}
use Rattle.pc_map.specs.Boundary.{boundary}
use Rattle.pc_map.specs.laws.Boundaries.{boundary_most}

pub record Bounding (xs : List ℕ) (n : ℕ) (w : List ℕ) (next p : ℕ) : Type 0 where
  pub within : p ≤ n
  pub counted : next ≡ boundary (mid_of 0 n xs) p
  pub stored : w ≡ put_mid n p xs (tabulate p (boundary (mid_of 0 n xs)))

module _ (xs : List ℕ) (n : ℕ) (room : 2 * n + 1 ≤ length xs) where
  pub bounding_begin : Bounding xs n xs 0 0
  unfolding tabulate sum
  bounding_begin = record { within = omega arith; counted = refl; stored = sym (put_same n 0 xs) }

  module _ (w : List ℕ) (next p : ℕ) (b : Bounding xs n w next p) where
    pub bounding_long : length w ≡ length xs
    bounding_long =
        let h = b.within in
        ap length b.stored ∙ put_long xs n p (tabulate p (boundary (mid_of 0 n xs))) (length_tabulate p (boundary (mid_of 0 n xs))) (omega arith)

    more : set w (n + p) next ≡ put_mid n (p + 1) xs (tabulate (p + 1) (boundary (mid_of 0 n xs)))
    more = let h = b.within in tabulate_turn (boundary (mid_of 0 n xs)) xs w n p next b.stored b.counted (omega arith)

    -- the flags are still there
    pub bounding_flag : p < n → get_or (set w (n + p) next) p 0 ≡ get_or (mid_of 0 n xs) p 0
    bounding_flag h =
        ap (λ (l : List ℕ). get_or l p 0) more
        ∙ get_before xs n (p + 1) (tabulate (p + 1) (boundary (mid_of 0 n xs))) (length_tabulate (p + 1) (boundary (mid_of 0 n xs))) (omega arith) p 0 h
        ∙ sym (get_mid xs 0 n p 0 h ∙ rw (zero-add p))

    pub bounding_few : Flags (mid_of 0 n xs) → p < n → next + get_or (set w (n + p) next) p 0 ≤ n
    bounding_few f h = omega (arith, b.counted, boundary_most (mid_of 0 n xs) f p, f p, bounding_flag h)

    pub bounding_turn : p < n → Bounding xs n (set w (n + p) next) (next + get_or (set w (n + p) next) p 0) (p + 1)
    bounding_turn h =
        let inside : p < length (mid_of 0 n xs) = rw (mid_long xs 0 n (omega arith)) h in
        record {
          within = omega arith;
          counted = rw (bounding_flag h, b.counted) (sym (sum_take (mid_of 0 n xs) p inside));
          stored = more;
        }

    pub bounding_end : n ≤ p → (set w (n + n) next ≡ put_mid n (n + 1) xs (tabulate (n + 1) (boundary (mid_of 0 n xs)))) × (next ≡ boundary (mid_of 0 n xs) n)
    bounding_end h =
        let end : p ≡ n = omega (arith, b.within) in
        (rw end at more, rw end at b.counted)
