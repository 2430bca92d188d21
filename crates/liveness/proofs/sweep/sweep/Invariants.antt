use mathlib.Core.Path.{◌≡◌}
use mathlib.Core.List.{List}
use Prim.Native.Nat.{ℕ}
use lib.ListN.{length}
use Rattle.unit.specs.laws.Region.{keep_at}
use Rattle.effects.specs.Shape.{tables_in}
use Rattle.effects.specs.laws.Cells.{cells_by}
use Rattle.liveness.specs.Live.{Row}
use Rattle.liveness.specs.laws.SetMemory.{code_words, row_of, live_of, leaders_of, blocks_of, flags_of}
use Rattle.words.specs.laws.Only.{At, Only}
use Rattle.liveness.specs.laws.Sweep.{Grounds, SweepFrom, sections}
use Rattle.liveness.proofs.sweep.sweep.Given as goal

abbrev pub invariant-loop-p : goal.invariant-loop-p
invariant-loop-p l =
    (length l.memory ≡ length l.initial.memory) × (length l.table ≡ length l.initial.table) × Only (At l.sets.row l.sets.width) l.initial.memory l.memory × Only (At (keep_at l.sets.code) l.sets.code) l.initial.table l.table
    × ((locals : ℕ) (constants : List ℕ) (rows : List Row)
    → Grounds (sections locals l.types constants (tables_in l.tables)) (leaders_of l.sets.code l.initial.table) (flags_of l.sets.code l.initial.table) (cells_by (code_words l.sets l.initial.memory) l.metadata) rows l.sets.width (blocks_of l.sets.code l.initial.table) (live_of l.sets l.initial.memory)
    → SweepFrom (sections locals l.types constants (tables_in l.tables)) (leaders_of l.sets.code l.initial.table) (flags_of l.sets.code l.initial.table) (cells_by (code_words l.sets l.initial.memory) l.metadata) rows (flags_of l.sets.code l.table) (row_of l.sets l.memory) l.p)
