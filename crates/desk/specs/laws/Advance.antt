-- How far a run goes, and how it stops there.
-- Assumes nothing.
use Rattle.std.specs.Prelude.{◌≡◌, ℕ, zero, suc, cond, List, length, nat_lt}
use Rattle.effects.specs.Shape.{Sections, Cell}
use Rattle.desk.specs.declared.Stop.{Stop}
use Rattle.desk.specs.declared.Stop.TheVariants.{Ended, Other, Limit}
use Rattle.desk.specs.Desk.{Due, goes, stops, not_executed, due_at}

-- a place, the steps that are left, and the frame then
pub record Advance : Type 0 where
  pub place : ℕ
  pub left : ℕ
  pub frame : List ℕ

abbrev pub stands : ℕ → ℕ → List ℕ → Advance
stands p k f = record { place = p; left = k; frame = f }

-- what a function that goes on found
pub record Placed (a : Advance) (p k : ℕ) (f : List ℕ) : Type 0 where
  pub place : p ≡ a.place
  pub left : k ≡ a.left
  pub frame : f ≡ a.frame

-- a step that goes on, and further from there
unfoldable pub onward : ℕ → ℕ → List ℕ → (ℕ → List ℕ → Advance) → Due → Advance
onward p k f later (goes q g) = later q g
onward p k f later (stops s) = stands p k f
onward p k f later not_executed = stands p k f

-- how the run stops where it does not go on, with k steps left
unfoldable pub stop_by : ℕ → ℕ → Due → Stop
stop_by p k (goes q g) = Limit
stop_by p zero (stops s) = Limit
stop_by p (suc k) (stops s) = s
stop_by p k not_executed = Other p

module _ (S : Sections) (cells : List Cell) where
  -- at most k steps from place p on
  unfoldable pub advanced : ℕ → ℕ → List ℕ → Advance
  advanced zero p f = stands p 0 f
  advanced (suc k) p f = let rest = onward p (suc k) f (advanced k) (due_at S cells p f) in cond (nat_lt p (length cells)) rest (stands p (suc k) f)

  unfoldable pub stop_at : ℕ → ℕ → List ℕ → Stop
  stop_at k p f = cond (nat_lt p (length cells)) (stop_by p k (due_at S cells p f)) Ended
