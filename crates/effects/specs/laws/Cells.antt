-- Cells in lent memory: the instructions as words, the metadata as bytes.
-- Assumes nothing.
use Rattle.std.specs.Prelude.{◌≡◌, List, ℕ, ◌<◌, length, get_or}
use Rattle.std.proofs.Common.{zero-add}
use Rattle.words.specs.Lists.{map_from}
use Rattle.words.specs.laws.Lists.{length_map_from, get_d_map_from}
use Rattle.instruction.specs.Instruction.{of_word}
use Rattle.unit.specs.Entry.{metadata_at}
use Rattle.effects.specs.Shape.{Cell, cell_at, no_cell}

abbrev pub cell_of : List ℕ → ℕ → ℕ → Cell
cell_of metadata p w = record { instruction = of_word w; metadata = metadata_at metadata p }

unfoldable pub cells_by : List ℕ → List ℕ → List Cell
cells_by words metadata = map_from (cell_of metadata) 0 words

pub cells_long : (words metadata : List ℕ) → length (cells_by words metadata) ≡ length words
unfolding cells_by
cells_long words metadata = length_map_from (cell_of metadata) 0 words

pub cell_at_lem : (words metadata : List ℕ) (p : ℕ) → p < length words → cell_at (cells_by words metadata) p ≡ cell_of metadata p (get_or words p 0)
unfolding cells_by
cell_at_lem words metadata p h = rw (get_d_map_from (cell_of metadata) 0 words p 0 no_cell h, zero-add)
