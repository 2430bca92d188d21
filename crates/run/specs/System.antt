-- Definitions. Deterministic systems with a record and an end, and what it means that two have the same runs. Nothing here knows of
-- instructions. Assumes nothing.
use Rattle.std.specs.Prelude.{Option, Some, ◌≡◌, ℕ, zero, suc, ◌≤◌}

-- A state has the record so far and, once it has ended, the way in which it did; then `next` leaves it as it is.
pub record System (R W : Type 0) : Type 1 where
  pub State : Type 0
  pub next : State → State
  pub log : State → R
  pub way : State → Option W
  pub stays : (x : State) (w : W) → way x ≡ Some w → next x ≡ x

module _ {R W : Type 0} where
  -- the state after k steps
  unfoldable pub after : (S : System R W) → ℕ → S.State → S.State
  after S zero x = x
  after S (suc k) x = after S k (S.next x)

  -- Demand 3, of the given run from x and the returned run from y.
  pub record Same (S : System R W) (x : S.State) (S' : System R W) (y : S'.State) : Type 0 where
    -- "If the given run has a record after k steps, the returned one has the same after at most k"
    pub logs : (k : ℕ) → (j : ℕ) × (j ≤ k) × (S'.log (after S' j y) ≡ S.log (after S k x))
    -- "if the given one ends in k, the returned one ends with the same record and in the same way .. in at most k"
    pub ends : (k : ℕ) (w : W) → S.way (after S k x) ≡ Some w
        → (j : ℕ) × (j ≤ k) × (S'.way (after S' j y) ≡ Some w) × (S'.log (after S' j y) ≡ S.log (after S k x))
    -- "and every record and every end of the returned run is the given one's too"
    pub logs⁻ : (j : ℕ) → (k : ℕ) × (S.log (after S k x) ≡ S'.log (after S' j y))
    pub ends⁻ : (j : ℕ) (w : W) → S'.way (after S' j y) ≡ Some w
        → (k : ℕ) × (S.way (after S k x) ≡ Some w) × (S.log (after S k x) ≡ S'.log (after S' j y))
