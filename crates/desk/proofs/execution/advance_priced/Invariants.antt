use Rattle.std.proofs.Common.{◌≡◌, ℕ, ◌+◌, ◌*◌, ◌≤◌, List, length}
use Rattle.effects.specs.Shape.{Sections, Cell}
use Rattle.answer.specs.Answer.{cells_of, sections_of}
use Rattle.desk.specs.Charge.{highest_price}
use Rattle.desk.specs.laws.Priced.{advanced}
use Rattle.desk.proofs.execution.advance_priced.Given as goal

-- as far as from here, and no more was spent than the steps done can cost
pub record Onward (S : Sections) (cells : List Cell) (tariff : List ℕ) (steps from : ℕ) (f₀ : List ℕ) (left p spent : ℕ) (f : List ℕ) : Type 0 where
  pub same : advanced S cells tariff steps from 0 f₀ ≡ advanced S cells tariff left p spent f
  pub long : length f ≡ length f₀
  pub few : spent + highest_price * left ≤ highest_price * steps

abbrev pub invariant-loop-left : goal.invariant-loop-left
invariant-loop-left l =
    Onward (sections_of l.unit) (cells_of l.unit) l.tariff l.steps l.from l.initial.frame l.left l.p l.spent l.frame

abbrev pub decreases-loop-left : goal.decreases-loop-left
decreases-loop-left l = l.left
