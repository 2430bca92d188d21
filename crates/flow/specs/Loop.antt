-- Definitions. Loop hints, and the places that are reached "from place 0 by the rewritten branches; a sound loop hint, flags 1, also reaches
-- its end and an exit below n, an unsound one only the next place".
-- Assumes nothing.
use Rattle.std.specs.Prelude.{ℕ, suc, Bool, cond, ◌&&◌, List, [], ◌∷◌, ◌++◌, length, replicate, ◌==◌, nat_lt, slice_index}
use Rattle.instruction.specs.Opcode as op
use Rattle.instruction.specs.declared.Instruction.{Instruction}
use Rattle.instruction.specs.Instruction.{imm32_unsigned, class}
use Rattle.unit.specs.Refusal.{unsound_loop}
use Rattle.unit.specs.Entry.{kind_loop_end}
use Rattle.effects.specs.Check.{Check}
use Rattle.effects.specs.Shape.{Cell, cell_at}
use Rattle.effects.specs.Check.{lowest}
use Rattle.flow.specs.Branch.{falls, branches, target}
use Rattle.flow.specs.Reach.{reached, mark_all}

-- "loop hint, flags 1"; "Hint with flags 0"
abbrev pub is_loop_hint : Instruction → Bool
is_loop_hint i = i.op == op.Hint && i.flags == 1

abbrev pub is_plain_hint : Instruction → Bool
is_plain_hint i = i.op == op.Hint && i.flags == 0

-- a loop hint's exit is its immediate, read unsigned; its end is in the metadata LoopEnd
abbrev pub loop_exit : Cell → ℕ
loop_exit x = imm32_unsigned x.instruction

abbrev pub loop_end : Cell → ℕ
loop_end x = x.metadata.end

-- it has LoopEnd with an end inside
abbrev pub is_sound : ℕ → Cell → Bool
is_sound n x = x.metadata.kind == kind_loop_end && nat_lt (loop_end x) n

-- the places that may come after place p; those at or past n are none
unfoldable pub successors : ℕ → ℕ → Cell → List ℕ
successors n p x =
    cond (falls (class x.instruction)) (suc p ∷ []) []
    ++ cond (branches (class x.instruction)) (target p x.instruction ∷ []) []
    ++ cond (is_loop_hint x.instruction && is_sound n x) (loop_end x ∷ loop_exit x ∷ []) []

-- 1 for each reached place
unfoldable pub reached_places : List Cell → List ℕ
reached_places cells = reached (length cells) (λ p. successors (length cells) p (cell_at cells p))

-- refusal 9: "lowest reached loop hint without LoopEnd or with its end outside"
unfoldable pub loop_check : List ℕ → List Cell → Check
loop_check marks cells =
    lowest
    (λ p x. cond (slice_index marks p == 1 && is_loop_hint x.instruction) (cond (is_sound (length cells) x) 0 unsound_loop) 0)
    0
    cells

-- the ends of the reached loop hints: no jump there is dropped
unfoldable pub loop_ends : ℕ → List ℕ → List Cell → List ℕ
loop_ends p marks [] = []
loop_ends p marks (x ∷ xs) =
    let rest = loop_ends (suc p) marks xs in
    cond (slice_index marks p == 1 && is_loop_hint x.instruction) (loop_end x ∷ rest) rest

unfoldable pub anchors : List ℕ → List Cell → List ℕ
anchors marks cells = mark_all (replicate (length cells) 0) (loop_ends 0 marks cells)
