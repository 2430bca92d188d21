-- The function of a unit again: its cells are those that were laid out, and its other sections are the given unit's.
-- Assumes nothing.
use Rattle.std.specs.Prelude.{List, ℕ, ◌<◌, length}
use Rattle.instruction.specs.laws.Instruction.{Fields}
use Rattle.unit.specs.laws.UnitLaws.{MetadataFields}
use Rattle.effects.specs.Shape.{Cell, cell_at}

-- every field of every cell fits its width
pub record AllFields (cells : List Cell) : Type 0 where
  pub instructions : (p : ℕ) → p < length cells → Fields (cell_at cells p).instruction
  pub metadata : (p : ℕ) → p < length cells → MetadataFields (cell_at cells p).metadata
