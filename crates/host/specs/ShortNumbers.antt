-- Definitions. What is made of a short function's number, and what number a unit has, as numbers.
-- Assumes nothing.
use Rattle.std.specs.Prelude.{Result, Ok, Err, ◌≡◌, List, ℕ, Option, Some, None}
use Rattle.short.specs.Short.{HasNumber}
use Rattle.unit.specs.declared.refusal.Refusal.{Refusal}
use Rattle.host.specs.declared.MadeNumbers.{MadeNumbers}
use Rattle.host.specs.declared.FoundNumbers.{FoundNumbers}

unfoldable pub made_numbers_of : Result (Option ℕ) Refusal → MadeNumbers
made_numbers_of (Ok (Some size)) = record { kind = 0; number = size; place = 0 }
made_numbers_of (Err r) = record { kind = 1; number = r.number; place = r.place }
made_numbers_of (Ok None) = record { kind = 2; number = 0; place = 0 }

unfoldable pub found_numbers_of : Option ℕ → FoundNumbers
found_numbers_of (Some k) = record { kind = 0; number = k }
found_numbers_of None = record { kind = 1; number = 0 }

-- the numbers of the number that is right
pub record FoundContract (unit : List ℕ) (numbers : FoundNumbers) : Type 0 where
  pub found : Option ℕ
  pub given : numbers ≡ found_numbers_of found
  pub right : HasNumber unit found
