-- How far a charged run goes, and for how much: the run that is not charged goes as far.
-- Assumes nothing.
use Rattle.std.specs.Prelude.{◌≡◌, ℕ, zero, suc, ◌+◌, cond, List, length, nat_lt}
use Rattle.effects.specs.Shape.{Sections, Cell}
use Rattle.desk.specs.Charge.{price_at}
use Rattle.desk.specs.Desk.{Due, goes, stops, not_executed, due_at}

-- a place, the steps that are left, what was spent, and the frame then
pub record Advance : Type 0 where
  pub place : ℕ
  pub left : ℕ
  pub spent : ℕ
  pub frame : List ℕ

abbrev pub stands : ℕ → ℕ → ℕ → List ℕ → Advance
stands p k v f = record { place = p; left = k; spent = v; frame = f }

-- what a function that goes on found
pub record Placed (a : Advance) (p k v : ℕ) (f : List ℕ) : Type 0 where
  pub place : p ≡ a.place
  pub left : k ≡ a.left
  pub spent : v ≡ a.spent
  pub frame : f ≡ a.frame

-- a step that goes on, and further from there; else it stays
unfoldable pub onward : Advance → (ℕ → List ℕ → Advance) → Due → Advance
onward here later (goes q g) = later q g
onward here later (stops s) = here
onward here later not_executed = here

module _ (S : Sections) (cells : List Cell) (tariff : List ℕ) where
  -- at most k steps from place p on, where v was spent before
  unfoldable pub advanced : ℕ → ℕ → ℕ → List ℕ → Advance
  advanced zero p v f = stands p 0 v f
  advanced (suc k) p v f =
      let rest = onward (stands p (suc k) v f) (λ q g. advanced k q (v + price_at tariff cells p) g) (due_at S cells p f) in
      cond (nat_lt p (length cells)) rest (stands p (suc k) v f)
