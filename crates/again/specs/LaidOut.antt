-- Definitions. A result of one pass or of the cleaning laid out as a unit again in a lent buffer: what is answered, and what the buffer holds after it.
-- Assumes nothing.
use Rattle.std.specs.Prelude.{Option, Some, None, Ok, Err, Result, Bool, cond, ◌&&◌, List, ℕ, ◌*◌, eqb, leb, length}
use borrow.Rule.Slice.PartMut.{mid_of, put_mid}
use Rattle.words.specs.Le.{u32_at}
use Rattle.unit.specs.Refusal.{Refused}
use Rattle.unit.specs.Entry.{lines_in}
use Rattle.unit.specs.Layout.{header_of, layout_of}
use Rattle.unit.specs.Refusal.{short_buffer}
use Rattle.unit.specs.Result.{read_result, result_metadata_at, result_places_at, result_lines_at}
use Rattle.unit.specs.Size.{line_size, result_header_size, result_size}
use Rattle.unit.specs.declared.Counts.{Counts}
use Rattle.unit.specs.declared.Header.{Header}
use Rattle.unit.specs.declared.refusal.Refusal.{Refusal}
use Rattle.unit.specs.declared.Line.{Line}
use Rattle.answer.specs.Clean.{cells_after}
use Rattle.again.specs.Again.{unit_of}

-- the lines of a result at the front of a buffer, read back as a caller reads them: by the two last words of its header
unfoldable pub read_lines : List ℕ → List Line
read_lines b = lines_in (mid_of (u32_at b 20) (line_size * u32_at b 16) b)

-- the words of a result's header that follow from n': 24, 24 + 8n', 24 + 24n' and 24 + 28n'
unfoldable pub has_offsets : List ℕ → ℕ → Bool
has_offsets b n =
    eqb (u32_at b 4) result_header_size
    && eqb (u32_at b 8) (result_metadata_at n)
    && eqb (u32_at b 12) (result_places_at n)
    && eqb (u32_at b 20) (result_lines_at n)

-- Does a buffer begin with a result of a unit with these counts? It has the header of a result, with n' and l', and all that this counts;
-- and the unit has n' instructions, n' metadata entries and l' lines at least.
unfoldable pub is_result_of : Counts → List ℕ → Bool
is_result_of c b =
    let n = u32_at b 0 in
    let l = u32_at b 16 in
    leb result_header_size (length b)
    && has_offsets b n
    && leb (result_size n l) (length b)
    && leb n c.instructions
    && leb n c.metadata
    && leb l c.lines

-- the unit again of a unit and a result of it at the front of a buffer
abbrev pub laid_unit : List ℕ → List ℕ → List ℕ
laid_unit u b = unit_of u (cells_after (read_result b)) (read_lines b)

-- The answers, from the last row upward: each is what its test says, or else the rows below it. u is the unit, b the buffer with the
-- result, and room the length of the buffer to write to.

-- refused 2, place 0: the buffer to write to is shorter than the unit again
unfoldable pub room_answer : List ℕ → List ℕ → ℕ → Result (Option ℕ) Refusal
room_answer u b room = let size = length (laid_unit u b) in cond (leb size room) (Ok (Some size)) (Refused short_buffer 0)

-- none: there is no result of this unit
unfoldable pub result_answer : List ℕ → List ℕ → ℕ → Result (Option ℕ) Refusal
result_answer u b room = let rest = room_answer u b room in cond (is_result_of (header_of u).counts b) rest (Ok None)

-- refused 1, 11 and 13, as a pass refuses the unit's bytes
unfoldable pub unit_answer : Result Header Refusal → Result (Option ℕ) Refusal → Result (Option ℕ) Refusal
unit_answer (Err r) rest = Err r
unit_answer (Ok h) rest = rest

unfoldable pub laid_answer : List ℕ → List ℕ → ℕ → Result (Option ℕ) Refusal
laid_answer u b room = let rest = result_answer u b room in unit_answer (layout_of u) rest

-- the buffer after an answer: the unit at its front, its rest as it was; all as it was where there is none
unfoldable pub output_by : List ℕ → List ℕ → Result (Option ℕ) Refusal → List ℕ
output_by unit out (Ok (Some size)) = put_mid 0 size out unit
output_by unit out (Err r) = out
output_by unit out (Ok None) = out

unfoldable pub output_laid : List ℕ → List ℕ → List ℕ → List ℕ
output_laid u b out = output_by (laid_unit u b) out (laid_answer u b (length out))
