-- Definitions. Little-endian numbers ("little-endian like all else here").
-- Assumes nothing.
use Rattle.std.specs.Prelude.{ℕ, zero, suc, ◌+◌, ◌*◌, ◌/◌, ◌%◌, List, [], ◌∷◌}
use borrow.Rule.Slice.PartMut.{mid_of}

-- the number whose bytes these are
unfoldable pub from_le : List ℕ → ℕ
from_le [] = 0
from_le (b ∷ bs) = b + 256 * from_le bs

-- the k bytes of a number
unfoldable pub to_le : ℕ → ℕ → List ℕ
to_le zero v = []
to_le (suc k) v = v % 256 ∷ to_le k (v / 256)

-- the numbers of 16, 32 and 64 bits at byte i
abbrev pub le_at : ℕ → List ℕ → ℕ → ℕ
le_at k l i = from_le (mid_of i k l)

abbrev pub u16_at : List ℕ → ℕ → ℕ
u16_at = le_at 2

abbrev pub u32_at : List ℕ → ℕ → ℕ
u32_at = le_at 4

abbrev pub u64_at : List ℕ → ℕ → ℕ
u64_at = le_at 8
