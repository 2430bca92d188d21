use mathlib.Core.Path.{◌≡◌}
use mathlib.Core.List.{List}
use Prim.Native.Nat.{ℕ, ◌-◌}
use lib.ListN.{length}
use Rattle.effects.specs.Shape.{Sections}
use Rattle.effects.specs.laws.Cells.{cells_by}
use Rattle.liveness.specs.Live.{Row}
use Rattle.liveness.specs.laws.SetMemory.{code_words, uses_of, preserved_of, live_of, InRows}
use Rattle.words.specs.laws.Only.{Only}
use Rattle.liveness.specs.laws.Rounding.{Around}
use Rattle.liveness.specs.laws.Solving.{Solving}
use Rattle.liveness.proofs.round.solve.Given as goal

abbrev pub invariant-loop : goal.invariant-loop
invariant-loop l =
    (length l.memory ≡ length l.initial.memory) × Only (InRows l.sets) l.initial.memory l.memory
    × ((S : Sections) (leaders keep metadata : List ℕ) (rows : List Row) → Around S leaders keep (cells_by (code_words l.sets l.initial.memory) metadata) l.sets.width l.sets.count rows l.blocks l.starts (uses_of l.sets l.initial.memory) (preserved_of l.sets l.initial.memory) (live_of l.sets l.initial.memory)
    → Solving S leaders keep (cells_by (code_words l.sets l.initial.memory) metadata) l.sets.width l.sets.count l.limit rows l.blocks l.starts (uses_of l.sets l.initial.memory) (preserved_of l.sets l.initial.memory) (live_of l.sets l.memory) (l.limit - l.counter))
