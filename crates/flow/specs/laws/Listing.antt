-- The answer of the check of all operands, which lists the control places on its way: their count, or the refusal.
-- Assumes nothing.
use Rattle.std.specs.Prelude.{Result, Ok, Err, ℕ, ◌≤◌, List}
use borrow.Rule.Slice.PartMut.{mid_of}
use Rattle.unit.specs.declared.refusal.Refusal.{Refusal}
use Rattle.effects.specs.Check.{Check, Passed}
use Rattle.flow.specs.laws.Control.{Controls}

-- what it says of the operands
unfoldable pub check_of : Result ℕ Refusal → Check
check_of (Err r) = Err r
check_of (Ok count) = Passed

-- and of the control places of n words, which are listed from `at` on unless a place is refused
unfoldable pub ListedBy : Result ℕ Refusal → List ℕ → ℕ → ℕ → List ℕ → Type 0
ListedBy (Err r) words n at memory = Unit {0}
ListedBy (Ok count) words n at memory = Controls words (mid_of at count memory) n × (count ≤ n)
