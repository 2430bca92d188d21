-- Definitions. "The boundary of old place p (0 to n) is the number of retained instructions before p."
-- Kept places are a list of numbers, 1 for a place that is retained and 0 for any other.
-- Assumes nothing.
use Rattle.std.specs.Prelude.{ℕ, Bool, List, take, ◌==◌, slice_index}
use Rattle.words.specs.Lists.{sum}

abbrev pub is_kept : List ℕ → ℕ → Bool
is_kept keep p = slice_index keep p == 1

abbrev pub boundary : List ℕ → ℕ → ℕ
boundary keep p = sum (take p keep)
