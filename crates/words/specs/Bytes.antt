-- Definitions. Lists of bytes: their parts are bytes, and the number that k of them are is below 256 to the k.
-- Assumes nothing.
use Rattle.std.specs.Prelude.{ℕ, ◌<◌, List, slice_index}

abbrev pub Bytes : List ℕ → Type 0
Bytes l = (i : ℕ) → slice_index l i < 256
