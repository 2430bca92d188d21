-- What a pass is given, and what its steps make of it.
-- Assumes nothing.
use Rattle.std.specs.Prelude.{Ok, Err, Result, ◌≡◌, Bool, true, false, ◌&&◌, List, [], ◌∷◌, map, ℕ, ◌*◌, ◌/◌, ◌≤◌, ◌<◌, eqb, length}
use Rattle.std.proofs.Math.Path.{refl}
use Rattle.std.proofs.Common.{sym, ap, ◌∙◌, ext_get_or}
use Rattle.words.specs.Bytes.{Bytes}
use Rattle.words.specs.Lists.{tabulate}
use Rattle.words.specs.laws.Lists.{length_tabulate, get_d_tabulate}
use Rattle.instruction.specs.Instruction.{instruction_at, to_word}
use Rattle.instruction.specs.laws.Instruction.{of_to}
use Rattle.unit.specs.Entry.{metadata_at, good_metadata}
use Rattle.unit.specs.Layout.{is_unit}
use Rattle.unit.specs.Size.{instruction_size, metadata_size, case_size, work32_room, work64_room, max_instructions, max_local_slots}
use Rattle.effects.specs.Check.{Passed}
use Rattle.effects.specs.Check.{operand_check}
use Rattle.effects.specs.Shape.{Sections, Cell, no_cell}
use Rattle.effects.specs.laws.Cells.{cell_of, cells_by, cells_long, cell_at_lem}
use Rattle.flow.specs.Branch.{branch_check}
use Rattle.flow.specs.Block.{leaders}
use Rattle.flow.specs.Loop.{reached_places, loop_check}
use Rattle.values.specs.Number.{number_code}
use Rattle.answer.specs.Pass.{Outcome, unchanged, refused, output_after, checked, removal, kept_places, after_loops, after_branches, after_operands, optimized}
use Rattle.answer.specs.Answer.{sections_of}
use Rattle.run.proofs.Given.{instruction_fields}
use Rattle.unit.specs.declared.refusal.Refusal.{Refusal}
use Rattle.unit.specs.Refusal.{Refused}
use Rattle.optimize.specs.declared.Answer.{Answer}
use Rattle.optimize.specs.declared.Answer.TheVariants.{Unchanged}
use Rattle.optimize.specs.PassAnswer.{answer_of, Answers}

pub answers_unchanged : (o : Outcome) (out : List ℕ) → o ≡ unchanged → Answers o (Ok Unchanged) out out
unfolding answer_of output_after
answers_unchanged o out e = rw e (refl, refl)

pub answers_refused : (o : Outcome) (k p : ℕ) (out : List ℕ) → o ≡ refused k p → Answers o (Refused k p) out out
unfolding answer_of output_after
answers_refused o k p out e = rw e (refl, refl)

pub answers_same : (o o' : Outcome) (r : Result Answer Refusal) (out out' : List ℕ) → o ≡ o' → Answers o' r out out' → Answers o r out out'
answers_same o o' r out out' e t = rw e t

-- the words of the first n instructions of a code section
unfoldable pub words_in : ℕ → List ℕ → List ℕ
words_in n code = tabulate n (λ p. to_word (instruction_at code p))

unfoldable pub same_words : List ℕ → List ℕ → Bool
same_words [] [] = true
same_words [] (y ∷ ys) = false
same_words (x ∷ xs) [] = false
same_words (x ∷ xs) (y ∷ ys) = eqb x y && same_words xs ys

-- the function's cells
abbrev pub cells_in : ℕ → List ℕ → List ℕ → List Cell
cells_in n code metadata = cells_by (words_in n code) metadata

-- what a pass is given: n instructions, and the sections that stay; refusals 3 and 4 are past
pub record Given (n : ℕ) (code metadata : List ℕ) (S : Sections) : Type 0 where
  pub some : 1 < n
  pub few : n ≤ max_instructions
  pub code_long : instruction_size * n ≤ length code
  pub metadata_long : length metadata ≡ metadata_size * n
  pub slots : S.locals ≤ max_local_slots
  pub typed : length S.types ≡ S.locals
  pub good : (p : ℕ) → p < n → good_metadata (length S.tables.cases / case_size) (metadata_at metadata p) ≡ true
  pub code_bytes_lem : Bytes code
  pub constant_bytes : Bytes S.constants

-- the lent work is long enough
pub record WorkRoom (n s work32 work64 : ℕ) : Type 0 where
  pub room32 : work32_room n ≤ work32
  pub room64 : work64_room n s ≤ work64

-- the sections are those of the unit u
pub record Workable (n : ℕ) (u code metadata : List ℕ) (work32 work64 : ℕ) : Type 0 where
  pub laid : is_unit u ≡ true
  pub given : Given n code metadata (sections_of u)
  pub room : WorkRoom n (sections_of u).locals work32 work64

-- what the pass makes of them
abbrev pub outcome_in : ℕ → List ℕ → List ℕ → List ℕ → Outcome
outcome_in n u code metadata = optimized (sections_of u) (cells_in n code metadata)

-- refusals 5 to 8 are past
pub record Checked (S : Sections) (cells : List Cell) : Type 0 where
  pub operands : operand_check S.locals S.tables cells ≡ Passed
  pub branches : branch_check cells ≡ Passed

module _ (S : Sections) (cells : List Cell) where
  -- the numbered code, and its reached places
  abbrev pub numbered_code : List Cell
  numbered_code = number_code S (leaders cells) cells

  abbrev pub reached_marks : List ℕ
  reached_marks = reached_places numbered_code

  abbrev pub retained_places : List ℕ
  retained_places = kept_places S (leaders cells) reached_marks numbered_code

  -- the answers from refusal 9 on, and from "same code, all kept" on, of a function's cells
  abbrev pub from_branches : Outcome
  from_branches = after_branches S cells (leaders cells) numbered_code

  abbrev pub from_loops : Outcome
  from_loops = after_loops S cells (leaders cells) numbered_code reached_marks

  -- each row of the table is a check and the rows below it
  pub optimized_operands : optimized S cells ≡ checked (operand_check S.locals S.tables cells) (after_operands S cells)
  unfolding optimized
  optimized_operands = refl

  pub operands_branches : after_operands S cells ≡ checked (branch_check cells) from_branches
  unfolding after_operands
  operands_branches = refl

  pub branches_loops : from_branches ≡ checked (loop_check reached_marks numbered_code) from_loops
  unfolding after_branches
  branches_loops = refl

  pub loops_removal : from_loops ≡ removal cells numbered_code retained_places
  unfolding after_loops
  loops_removal = refl

-- code in memory, one word an instruction
abbrev pub words_of : List Cell → List ℕ
words_of cells = map (λ (x : Cell). to_word x.instruction) cells

pub words_long : (n : ℕ) (code : List ℕ) → length (words_in n code) ≡ n
unfolding words_in
words_long n code = length_tabulate n _

-- the words in memory hold what the bytes do
pub cells_in_lem : (n : ℕ) (code metadata : List ℕ) → Bytes code
    → cells_in n code metadata ≡ tabulate n (λ p. record { instruction = instruction_at code p; metadata = metadata_at metadata p })
unfolding words_in
cells_in_lem n code metadata b =
    let long : length (cells_in n code metadata) ≡ n = cells_long (words_in n code) metadata ∙ words_long n code in
    ext_get_or no_cell (cells_in n code metadata) (tabulate n (λ p. record { instruction = instruction_at code p; metadata = metadata_at metadata p }))
    (long ∙ sym (length_tabulate n _))
    (λ p h.
    let k : p < n = rw long at h in
    cell_at_lem (words_in n code) metadata p (rw (words_long n code) k)
    ∙ ap (cell_of metadata p) (get_d_tabulate n (λ p. to_word (instruction_at code p)) p 0 k)
    ∙ rw (of_to (instruction_at code p) (instruction_fields code p b)) (sym (get_d_tabulate n _ p no_cell k)))
