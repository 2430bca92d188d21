-- Definitions. What is reached. Places are the numbers below n; `next p` lists the successors of p, and a number of that list that is not
-- below n is none. Marks are a list of n numbers, 1 for a place that is reached and 0 for any other.
-- Assumes nothing.
use Rattle.std.specs.Prelude.{ℕ, zero, suc, ◌<◌, Bool, true, false, List, [], ◌∷◌, replicate, ◌==◌, slice_index, slice_set}
use mathlib.Core.List.{Memᴰ}

-- in words: place 0 is reached, and so is each successor of a reached place
pub data Reach (n : ℕ) (next : ℕ → List ℕ) : ℕ → Type 0 where
  start : Reach n next 0
  step : {p q : ℕ} → Reach n next p → Memᴰ q (next p) → q < n → Reach n next q

-- The same, to compute. All of qs are marked: `set` past the end changes nothing.
unfoldable pub mark_all : List ℕ → List ℕ → List ℕ
mark_all m [] = m
mark_all m (q ∷ qs) = mark_all (slice_set m q 1) qs

unfoldable pub mark_if : Bool → List ℕ → List ℕ → List ℕ
unfolding mark_all
mark_if true m qs = mark_all m qs
mark_if false m qs = m

-- the successors of each marked place below k, from 0 up
unfoldable pub sweep : (ℕ → List ℕ) → ℕ → List ℕ → List ℕ
unfolding mark_if
sweep next zero m = m
sweep next (suc k) m = let s = sweep next k m in mark_if (slice_index s k == 1) s (next k)

unfoldable pub sweeps : ℕ → (ℕ → List ℕ) → ℕ → List ℕ → List ℕ
unfolding sweep
sweeps n next zero m = m
sweeps n next (suc k) m = sweeps n next k (sweep next n m)

-- n sweeps from place 0 are enough: a sweep marks one place more, or changes nothing, and then no later one does
unfoldable pub reached : ℕ → (ℕ → List ℕ) → List ℕ
unfolding sweeps
reached n next = sweeps n next n (slice_set (replicate n 0) 0 1)
