-- Laws of Size.
-- Assumes nothing.
use Rattle.std.specs.Prelude.{ℕ, ◌+◌, ◌*◌, ◌/◌, ◌≤◌, min}
use Rattle.std.proofs.Common.{arith}
use Rattle.unit.specs.Size.{max_set_words, set_words, sets_room, work64_room}

-- it leaves n words, where the list of the control places stands
pub sets_fit : (n s : ℕ) → sets_room n s + n ≤ work64_room n s
sets_fit n s = more (3 * set_words s * min n (max_set_words / set_words s)) (set_words s)
  where
    more : (sets w : ℕ) → n + w + sets + n ≤ 24 * n + 4 * s + w + sets
    more sets w = omega arith
