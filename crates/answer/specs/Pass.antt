-- Definitions. One pass over the cells of a function: the answers from refusal 5 on, in the order of document 01's table.
-- Assumes nothing.
use Rattle.std.specs.Prelude.{Err, Bool, true, false, cond, ◌&&◌, not, List, [], ◌∷◌, ℕ, eqb, ltb, length, get_or}
use borrow.Rule.Slice.PartMut.{put_mid}
use Rattle.words.specs.Lists.{map_from}
use Rattle.instruction.specs.Instruction.{to_word}
use Rattle.unit.specs.declared.Line.{Line}
use Rattle.unit.specs.Result.{Retained, result_bytes}
use Rattle.unit.specs.Size.{result_size, max_instructions}
use Rattle.lines.specs.Lines.{moved_lines, places_of}
use Rattle.effects.specs.Check.{Check}
use Rattle.effects.specs.Check.{Passed}
use Rattle.unit.specs.Refusal.{Refused}
use Rattle.effects.specs.Shape.{Sections, Cell}
use Rattle.effects.specs.Check.{operand_check}
use Rattle.flow.specs.Branch.{branch_check}
use Rattle.flow.specs.Block.{leaders}
use Rattle.flow.specs.Loop.{reached_places, loop_check, anchors, is_plain_hint}
use Rattle.values.specs.Number.{number_code}
use Rattle.pc_map.specs.Relocate.{relocation_check, retain_from}
use Rattle.liveness.specs.Dead.{dead_stores}
use Rattle.answer.specs.Jump.{jump_rounds}

-- What a pass or the cleaning returns: unchanged, refused with number and place, or the retained instructions.
pub data Outcome : Type 0 where
  unchanged : Outcome
  refused : ℕ → ℕ → Outcome
  rewritten : List Retained → Outcome

-- Document 02, L3: the lines of what is returned, of the lines that were given; nothing else than "rewritten" returns any
unfoldable pub lines_after : List Line → Outcome → List Line
lines_after lines unchanged = []
lines_after lines (refused k p) = []
lines_after lines (rewritten kept) = moved_lines (places_of kept) lines

-- "Only "rewritten" alters the output, in its first 16 + 28n' bytes", and with L3 in its first 24 + 28n' + 8l': what the output buffer
-- holds after an outcome with these lines
unfoldable pub output_after : Outcome → List Line → List ℕ → List ℕ
output_after unchanged lines out = out
output_after (refused k p) lines out = out
output_after (rewritten kept) lines out = put_mid 0 (result_size (length kept) (length lines)) out (result_bytes kept lines)

-- go on where a check passed
unfoldable pub checked : Check → Outcome → Outcome
checked Passed rest = rest
checked (Err r) rest = refused r.number r.place

unfoldable pub same_code : List Cell → List Cell → Bool
same_code [] [] = true
same_code [] (y ∷ ys) = false
same_code (x ∷ xs) [] = false
same_code (x ∷ xs) (y ∷ ys) = eqb (to_word x.instruction) (to_word y.instruction) && same_code xs ys

unfoldable pub all_kept : List ℕ → Bool
all_kept [] = true
all_kept (k ∷ ks) = eqb k 1 && all_kept ks

-- "unreachable code ..; Hint with flags 0"
unfoldable pub useful_places : List ℕ → List Cell → List ℕ
useful_places marks cells = map_from (λ p x. cond (is_plain_hint x.instruction) 0 (get_or marks p 0)) 0 cells

-- the places that one pass retains, of the numbered code, with the blocks of the given code
unfoldable pub kept_places : Sections → List ℕ → List ℕ → List Cell → List ℕ
kept_places S leads marks code = jump_rounds 16 (anchors marks code) code (dead_stores S leads (useful_places marks code) code)

-- "unchanged: same code, all kept", then refusal 10, then "rewritten, n'"
unfoldable pub removal : List Cell → List Cell → List ℕ → Outcome
removal cells code keep =
    let moved = checked (relocation_check keep code) (rewritten (retain_from keep 0 code)) in
    cond (same_code cells code && all_kept keep) unchanged moved

-- The rows of document 01's table from refusal 5 on, from the last upward: each is what its check says, or else the rows below it.

-- from "unchanged: same code, all kept" on: the numbered code and its reached places are known
unfoldable pub after_loops : Sections → List Cell → List ℕ → List Cell → List ℕ → Outcome
after_loops S cells leads code marks = removal cells code (kept_places S leads marks code)

-- from refusal 9 on: the leaders and the numbered code are known
unfoldable pub after_branches : Sections → List Cell → List ℕ → List Cell → Outcome
after_branches S cells leads code =
    let marks = reached_places code in
    let rest = after_loops S cells leads code marks in
    checked (loop_check marks code) rest

-- from refusal 8 on
unfoldable pub after_operands : Sections → List Cell → Outcome
after_operands S cells =
    let leads = leaders cells in
    let code = number_code S leads cells in
    let rest = after_branches S cells leads code in
    checked (branch_check cells) rest

-- from refusals 5, 6 and 7 on: what is made of a function that is worked on
unfoldable pub optimized : Sections → List Cell → Outcome
optimized S cells = let rest = after_operands S cells in checked (operand_check S.locals S.tables cells) rest

-- "unchanged: n under 2, above 65,536" comes before all of them
unfoldable pub is_worked_on : ℕ → Bool
is_worked_on n = ltb 1 n && not (ltb max_instructions n)

unfoldable pub pass : Sections → List Cell → Outcome
pass S cells = let worked = optimized S cells in cond (is_worked_on (length cells)) worked unchanged
