use mathlib.Core.Path.{◌≡◌}
use Prim.Native.Nat.{ℕ, ◌-◌, ◌≤◌}
use lib.ListN.{length}
use borrow.Rule.Slice.PartMut.{mid_of}
use Rattle.effects.specs.Shape.{tables_in}
use Rattle.effects.specs.laws.Cells.{cells_by}
use Rattle.words.specs.laws.Only.{At, Either, Only}
use Rattle.liveness.specs.laws.Through.{Summary}
use Rattle.liveness.proofs.block.summarize_block.Given as goal

abbrev pub invariant-loop-p : goal.invariant-loop-p
invariant-loop-p l =
    (l.start ≤ l.p) × (length l.memory ≡ length l.initial.memory) × Only (Either (At l.sets.uses l.sets.width) (At l.sets.preserved l.sets.width)) l.initial.memory l.memory
    × ((n : ℕ) → l.end ≤ n → n ≤ l.sets.uses → Summary (tables_in l.tables) l.keep (cells_by (mid_of 0 n l.initial.memory) l.metadata) (mid_of l.sets.uses l.sets.width l.memory) (mid_of l.sets.preserved l.sets.width l.memory) l.p (l.end - l.p))
