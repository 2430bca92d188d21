use mathlib.Core.Path.{◌≡◌}
use mathlib.Core.List.{List}
use Prim.Native.Nat.{ℕ}
use lib.ListN.{length}
use Rattle.effects.specs.Shape.{Sections}
use Rattle.effects.specs.laws.Cells.{cells_by}
use Rattle.liveness.specs.Live.{Row}
use Rattle.liveness.specs.laws.SetMemory.{code_words, uses_of, preserved_of, live_of, InRows}
use Rattle.words.specs.laws.Only.{Only}
use Rattle.liveness.specs.laws.Rounding.{Around, Rounding}
use Rattle.liveness.proofs.round.round.Given as goal

abbrev pub invariant-loop-b : goal.invariant-loop-b
invariant-loop-b l =
    (length l.memory ≡ length l.initial.memory) × Only (InRows l.sets) l.initial.memory l.memory
    × ((S : Sections) (leaders keep metadata : List ℕ) (rows : List Row) → Around S leaders keep (cells_by (code_words l.sets l.initial.memory) metadata) l.sets.width l.sets.count rows l.blocks l.starts (uses_of l.sets l.initial.memory) (preserved_of l.sets l.initial.memory) (live_of l.sets l.initial.memory)
    → Rounding S leaders keep (cells_by (code_words l.sets l.initial.memory) metadata) l.sets.width l.sets.count rows (live_of l.sets l.initial.memory) (live_of l.sets l.memory) l.b l.changed)
