-- Definitions. The answer of one pass for every bytes and every lengths of the lent buffers: document 01's table, from top to bottom.
-- Assumes nothing.
use Rattle.std.specs.Prelude.{Ok, Err, Result, Bool, cond, ◌&&◌, ◌||◌, not, List, ℕ, eqb, leb}
use Rattle.words.specs.Lists.{tabulate}
use Rattle.instruction.specs.Instruction.{instruction_at}
use Rattle.unit.specs.declared.Counts.{Counts}
use Rattle.unit.specs.declared.Header.{Header}
use Rattle.unit.specs.declared.refusal.Refusal.{Refusal}
use Rattle.unit.specs.Refusal.{short_buffer, metadata_count, type_count}
use Rattle.unit.specs.Size.{output_room, work32_room, work64_room}
use Rattle.unit.specs.declared.Line.{Line}
use Rattle.unit.specs.Entry.{metadata_at, lines_in}
use Rattle.unit.specs.Layout.{header_of, code_of, metadata_of, types_of, constants_of, functions_of, externs_of, cases_of, lines_of, layout_of}
use Rattle.effects.specs.Check.{Check}
use Rattle.effects.specs.Check.{Passed}
use Rattle.unit.specs.Refusal.{Refused}
use Rattle.effects.specs.Shape.{Sections, Cell, tables_of}
use Rattle.answer.specs.declared.Admission.{Admission}
use Rattle.answer.specs.declared.Admission.TheVariants.{Admitted, Unchanged}
use Rattle.answer.specs.Pass.{Outcome, unchanged, refused, is_worked_on, optimized, lines_after}

-- the function of a unit: its cells, and the sections that stay
unfoldable pub cells_of : List ℕ → List Cell
cells_of u =
    let code = code_of u in
    let metadata = metadata_of u in
    tabulate (header_of u).counts.instructions (λ p. record { instruction = instruction_at code p; metadata = metadata_at metadata p })

unfoldable pub sections_of : List ℕ → Sections
sections_of u =
    record {
      locals = (header_of u).counts.locals;
      types = types_of u;
      constants = constants_of u;
      tables = tables_of (functions_of u) (externs_of u) (cases_of u);
    }

-- the lengths of the lent buffers
pub record Lent : Type 0 where
  pub out : ℕ
  pub work32 : ℕ
  pub work64 : ℕ

abbrev pub lent_of : ℕ → ℕ → ℕ → Lent
lent_of out work32 work64 = record { out = out; work32 = work32; work64 = work64 }

-- is every lent buffer as long as stated?
unfoldable pub room_for : Counts → Lent → Bool
room_for c l =
    leb (output_room c.instructions c.lines) l.out
    && leb (work32_room c.instructions) l.work32
    && leb (work64_room c.instructions c.locals) l.work64

-- "n under 2, above 65,536, or defer"
unfoldable pub is_skipped : Counts → Bool
is_skipped c = not (is_worked_on c.instructions) || eqb c.defer 1

-- The rows of document 01's table before any work, from the last upward: each is what its test says, or else the rows below it. Whether
-- the lent buffers are long enough is all that they ask of those, so that one pass and the cleaning share the rows.

-- "refused 3, place 0: m is not n", "refused 4, place 0: number of types is not s"
unfoldable pub count_check : Counts → Check
count_check c =
    let typed = cond (eqb c.types c.locals) Passed (Refused type_count 0) in
    cond (eqb c.metadata c.instructions) typed (Refused metadata_count 0)

-- what passes a check is admitted
unfoldable pub admitted_by : Check → Result Admission Refusal
admitted_by Passed = Ok Admitted
admitted_by (Err r) = Err r

-- "refused 2, place 0: a lent buffer shorter than stated"
unfoldable pub after_skipped : Bool → Counts → Result Admission Refusal
after_skipped room c = let rest = admitted_by (count_check c) in cond room rest (Refused short_buffer 0)

-- "unchanged: n under 2, above 65,536, or defer"
unfoldable pub after_layout : Bool → Counts → Result Admission Refusal
after_layout room c = let rest = after_skipped room c in cond (is_skipped c) (Ok Unchanged) rest

-- the rows of the unit's own bytes: "refused 1, place 0: unit not as above", and refusals 11 and 13
unfoldable pub laid_out : Result Header Refusal → Result Admission Refusal → Result Admission Refusal
laid_out (Ok h) rest = rest
laid_out (Err r) rest = Err r

unfoldable pub admission : Bool → List ℕ → Result Admission Refusal
admission room u = let rest = after_layout room (header_of u).counts in laid_out (layout_of u) rest

-- what is admitted is worked on
unfoldable pub after_admission : Result Admission Refusal → Outcome → Outcome
after_admission (Ok Admitted) worked = worked
after_admission (Ok Unchanged) worked = unchanged
after_admission (Err r) worked = refused r.number r.place

unfoldable pub answer_with : Bool → List ℕ → Outcome
answer_with room u = let worked = optimized (sections_of u) (cells_of u) in after_admission (admission room u) worked

unfoldable pub pass_answer : List ℕ → Lent → Outcome
pass_answer u l = answer_with (room_for (header_of u).counts l) u

-- the lines of its result
abbrev pub pass_lines : List ℕ → Lent → List Line
pass_lines u l = lines_after (lines_in (lines_of u)) (pass_answer u l)
