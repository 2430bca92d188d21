use Rattle.std.proofs.Common.{◌≡◌, ℕ, List, length, get_or}
use Rattle.flow.specs.laws.Leaders.{Leading}
use Rattle.flow.proofs.block.mark_leaders.Given as goal

abbrev pub invariant-loop-place : goal.invariant-loop-place
invariant-loop-place l = (length l.marks ≡ length l.words) × ((metadata : List ℕ) → Leading l.words metadata l.marks (get_or l.list l.place-index (length l.words)))
