-- Definitions. "Cleaning stops at the first pass that does not rewrite, or after 3, and adds the number of the last pass run, 1 where none ran."
-- Assumes nothing.
use Rattle.std.specs.Prelude.{Bool, ◌&&◌, List, [], ◌∷◌, map, ℕ, zero, suc, leb, get_or}
use Rattle.unit.specs.declared.Counts.{Counts}
use Rattle.unit.specs.declared.Line.{Line}
use Rattle.unit.specs.Entry.{lines_in}
use Rattle.unit.specs.Size.{output_room}
use Rattle.unit.specs.Layout.{header_of, lines_of}
use Rattle.unit.specs.Result.{Retained}
use Rattle.lines.specs.Lines.{moved_lines, places_of}
use Rattle.effects.specs.Shape.{Sections, Cell}
use Rattle.answer.specs.Pass.{Outcome, unchanged, refused, rewritten, pass}
use Rattle.answer.specs.Answer.{Lent, sections_of, room_for, answer_with}

-- an outcome and the number of the last pass run
pub record Cleaned : Type 0 where
  pub outcome : Outcome
  pub passes : ℕ

abbrev pub retained_cell : Retained → Cell
retained_cell r = record { instruction = r.instruction; metadata = r.metadata }

abbrev pub cells_after : List Retained → List Cell
cells_after kept = map retained_cell kept

-- "with old places in the given unit": the place of a later pass is one of the code before it
unfoldable pub placed_by : List Retained → List Retained → List Retained
placed_by before [] = []
placed_by before (r ∷ rs) =
    record { instruction = r.instruction; metadata = r.metadata; place = get_or (places_of before) r.place 0 }
    ∷ placed_by before rs

-- what pass j made of the code `before`; where it rewrote, the passes after it go on.
-- "otherwise it gives the last rewritten code"; "A refusal in any pass leaves the output untouched"
unfoldable pub after_pass : ℕ → List Retained → (List Retained → Cleaned) → Outcome → Cleaned
after_pass j before later unchanged = record { outcome = rewritten before; passes = j }
after_pass j before later (refused k p) = record { outcome = refused k p; passes = j }
after_pass j before later (rewritten kept) = later kept

-- up to k passes more, where pass j retained `before`
unfoldable pub clean_from : Sections → ℕ → ℕ → List Retained → Cleaned
clean_from S zero j before = record { outcome = rewritten before; passes = j }
clean_from S (suc k) j before =
    after_pass (suc j) before (λ kept. clean_from S k (suc j) (placed_by before kept)) (pass S (cells_after before))

-- "It is unchanged if pass 1 is"
unfoldable pub cleaned_first : Sections → Outcome → Cleaned
cleaned_first S unchanged = record { outcome = unchanged; passes = 1 }
cleaned_first S (refused k p) = record { outcome = refused k p; passes = 1 }
cleaned_first S (rewritten kept) = clean_from S 2 1 kept

-- "The three-pass cleaning also needs 2 × (16 + 28n) spare bytes": one buffer is read while the other is written; document 02, L3:
-- "spare room by twice that"
unfoldable pub spare_for : Counts → ℕ → ℕ → Bool
spare_for c first second = leb (output_room c.instructions c.lines) first && leb (output_room c.instructions c.lines) second

unfoldable pub clean_answer : List ℕ → Lent → ℕ → ℕ → Cleaned
clean_answer u l first second =
    let c = (header_of u).counts in
    cleaned_first (sections_of u) (answer_with (room_for c l && spare_for c first second) u)

-- Document 02, L3: the lines of what is returned. Each pass moves those of the code before it by what it retained of that code.

-- what a pass makes of the lines of the code before it; where it rewrote, the passes after it go on
unfoldable pub lines_past : List Line → (List Retained → List Line) → Outcome → List Line
lines_past lines later unchanged = lines
lines_past lines later (refused k p) = []
lines_past lines later (rewritten kept) = later kept

-- up to k passes more, where the passes so far retained `before`, with these lines
unfoldable pub lines_from : Sections → ℕ → List Retained → List Line → List Line
lines_from S zero before lines = lines
lines_from S (suc k) before lines =
    lines_past lines (λ kept. lines_from S k (placed_by before kept) (moved_lines (places_of kept) lines)) (pass S (cells_after before))

-- an unchanged unit has its lines, and no result has any
unfoldable pub lines_first : Sections → List Line → Outcome → List Line
lines_first S lines unchanged = []
lines_first S lines (refused k p) = []
lines_first S lines (rewritten kept) = lines_from S 2 kept (moved_lines (places_of kept) lines)

unfoldable pub clean_lines : List ℕ → Lent → ℕ → ℕ → List Line
clean_lines u l first second =
    let c = (header_of u).counts in
    lines_first (sections_of u) (lines_in (lines_of u)) (answer_with (room_for c l && spare_for c first second) u)
