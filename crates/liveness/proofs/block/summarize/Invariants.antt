use mathlib.Core.Path.{◌≡◌}
use lib.ListN.{length}
use Rattle.effects.specs.Shape.{tables_in}
use Rattle.effects.specs.laws.Cells.{cells_by}
use Rattle.liveness.specs.laws.SetMemory.{code_words, uses_of, preserved_of, InSums}
use Rattle.words.specs.laws.Only.{Only}
use Rattle.liveness.specs.laws.Visit.{Summed}
use Rattle.liveness.proofs.block.summarize.Given as goal

abbrev pub invariant-loop-b : goal.invariant-loop-b
invariant-loop-b l =
    (length l.memory ≡ length l.initial.memory) × Only (InSums l.sets) l.initial.memory l.memory
    × Summed (tables_in l.tables) l.keep (cells_by (code_words l.sets l.initial.memory) l.metadata) l.sets.width l.starts (uses_of l.sets l.memory) (preserved_of l.sets l.memory) l.b
