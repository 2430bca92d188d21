-- One step at the desk is one step of document 01's run, in every world.
-- Assumes nothing.
use Rattle.std.specs.Prelude.{ℕ, List, slice_index}
use Rattle.run.specs.Machine.{Words}

-- the words of a frame
abbrev pub words_in : List ℕ → Words
words_in f t = slice_index f t
