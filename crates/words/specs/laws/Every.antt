-- A loop that tests the numbers below n upward and stops at the first that fails.
-- Assumes nothing.
use Rattle.std.specs.Prelude.{◌≡◌, ℕ, ◌+◌, ◌<◌, ◌≤◌, Bool, true, false}
use Rattle.std.proofs.Common.{sym, arith, below_none, below_more}
use Rattle.words.specs.Lists.{every}
use Rattle.words.specs.laws.Lists.{every_all, every_not}

-- the numbers below i passed
pub record Passed (n : ℕ) (t : ℕ → Bool) (i : ℕ) : Type 0 where
  pub within : i ≤ n
  pub all : (k : ℕ) → k < i → t k ≡ true

module _ (n : ℕ) (t : ℕ → Bool) where
  pub none_passed : Passed n t 0
  none_passed = record { within = omega arith; all = below_none _ }

  pub more_passed : (i : ℕ) → Passed n t i → i < n → t i ≡ true → Passed n t (i + 1)
  more_passed i p h e = record { within = omega arith; all = below_more _ i p.all e }

  pub all_passed : (i : ℕ) → Passed n t i → n ≤ i → true ≡ every n t
  all_passed i p h = sym (every_all n t (λ k l. p.all k (omega arith)))

  pub one_failed : (i : ℕ) → i < n → t i ≡ false → false ≡ every n t
  one_failed i h e = sym (every_not n t i h e)
