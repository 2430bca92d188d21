-- Definitions. "then up to 16 rounds dropping a Jump, not a loop end, whose target's boundary is its own plus 1, by the map of the round's start"
-- Assumes nothing.
use Rattle.std.specs.Prelude.{Bool, false, cond, ◌&&◌, not, List, ℕ, zero, suc, ◌+◌, eqb, get_or}
use Rattle.words.specs.Lists.{map_from}
use Rattle.instruction.specs.Opcode as op
use Rattle.effects.specs.Shape.{Cell}
use Rattle.flow.specs.Branch.{target}
use Rattle.pc_map.specs.Boundary.{is_kept, boundary}

-- a kept jump to the next kept place
unfoldable pub is_idle : List ℕ → List ℕ → ℕ → Cell → Bool
is_idle anchors keep p x =
    let near = eqb (boundary keep (target p x.instruction)) (boundary keep p + 1) in
    cond (is_kept keep p && not (eqb (get_or anchors p 0) 1) && eqb x.instruction.op op.Jump) near false

unfoldable pub drop_idle : List ℕ → List Cell → List ℕ → List ℕ
drop_idle anchors cells keep = map_from (λ p x. cond (is_idle anchors keep p x) 0 (get_or keep p 0)) 0 cells

-- a round that drops nothing leaves all as it is, so that 16 rounds and "up to 16" are the same
unfoldable pub jump_rounds : ℕ → List ℕ → List Cell → List ℕ → List ℕ
jump_rounds zero anchors cells keep = keep
jump_rounds (suc k) anchors cells keep = jump_rounds k anchors cells (drop_idle anchors cells keep)
