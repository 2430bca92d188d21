-- Definitions. An operand as numbers.
-- Assumes nothing.
use Rattle.std.specs.Prelude.{◌≡◌, ℕ, Result, Ok, Err, Option, Some, None}
use Rattle.operand.specs.Operand.{RightOperand}
use Rattle.operand.specs.declared.NotCovered.{NotCovered}
use Rattle.host.specs.declared.OperandNumbers.{OperandNumbers}

unfoldable pub operand_numbers_of : Result (Option ℕ) NotCovered → OperandNumbers
operand_numbers_of (Ok (Some r)) = record { kind = 0; word = r }
operand_numbers_of (Ok None) = record { kind = 1; word = 0 }
operand_numbers_of (Err e) = record { kind = 2; word = 0 }

-- the numbers of the operand that is right
pub record OperandContract (opcode left wanted : ℕ) (numbers : OperandNumbers) : Type 0 where
  pub operand : Result (Option ℕ) NotCovered
  pub given : numbers ≡ operand_numbers_of operand
  pub right : RightOperand opcode left wanted operand
