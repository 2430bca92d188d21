-- Demand 3 for whole units: what one pass or the cleaning returns runs as the unit's function does.
-- Assumes nothing.
use Rattle.std.proofs.Math.Path.{◌≡◌}
use Rattle.std.specs.Prelude.{Bool, true}
use mathlib.Core.List.{List}
use Prim.Native.Nat.{ℕ, ◌≤◌}
use Rattle.std.proofs.Math.ListN.{length}
use Rattle.unit.specs.Layout.{header_of, is_unit, lines_rise}
use Rattle.unit.specs.Size.{max_instructions}
use Rattle.answer.specs.Pass.{is_worked_on}
use Rattle.answer.specs.Answer.{cells_of}

-- What an admitted unit went through, whatever room it was lent.
pub record Worked (u : List ℕ) (room : Bool) : Type 0 where
  pub laid : is_unit u ≡ true
  pub rise : lines_rise u ≡ true
  pub worked : is_worked_on (length (cells_of u)) ≡ true
  pub few : (header_of u).counts.instructions ≤ max_instructions
  pub lent : room ≡ true
  pub described : (header_of u).counts.metadata ≡ (header_of u).counts.instructions
  pub typed : (header_of u).counts.types ≡ (header_of u).counts.locals
