-- Document 02, L6, its claim, of units: "Whenever a given function returns, panics or runs out at its end in k steps, the rewritten one, from the same
-- frame, ends likewise, with the same words read, in at most k." The rewritten one is the result laid out as a unit again.
-- Assumes nothing.
use Rattle.std.specs.Prelude.{Err, ◌≡◌, ℕ, suc, ◌<◌, Bool, true, false, cond, List, length, nat_lt}
use Rattle.std.proofs.Math.Path.{refl, ap}
use Rattle.std.proofs.Common.{sym, ◌∙◌, zero-add, arith}
use borrow.Author.Tests.{eq-eqb, lt-ltb}
use Rattle.words.specs.Bytes.{Bytes}
use Rattle.instruction.specs.Instruction.{class}
use Rattle.unit.specs.Layout.{header_of}
use Rattle.unit.specs.Refusal.{branch_outside}
use Rattle.unit.specs.Result.{Retained}
use Rattle.unit.specs.declared.Line.{Line}
use Rattle.unit.specs.laws.UnitLaws.{layout_unit}
use Rattle.effects.specs.Check.{Check}
use Rattle.effects.specs.Check.{Passed}
use Rattle.effects.specs.Check.{lowest, operand_refusal, operand_check}
use Rattle.effects.specs.Shape.{Cell, cell_at}
use Rattle.flow.specs.Branch.{branches, target, branch_inside, branch_check_in}
use Rattle.flow.specs.laws.Checking.{lowest_all}
use Rattle.answer.specs.Pass.{rewritten}
use Rattle.answer.specs.Answer.{Lent, cells_of, sections_of, count_check, room_for, pass_answer, pass_lines}
use Rattle.answer.specs.Clean.{cells_after, clean_answer, clean_lines}
use Rattle.run.proofs.Given.{answer_worked}
use Rattle.run.proofs.Given.{answer_returnable, clean_kept}
use Rattle.run.specs.Program.{Function}
use Rattle.run.specs.Returned.{given_function, result_function}
use Rattle.run.specs.laws.Runnable.{Runnable}
use Rattle.again.specs.Again.{counts_with, header_with, unit_of}
use Rattle.again.specs.Units.{UnitAgain}
use Rattle.again.proofs.Units.{pass_unit, clean_unit}
use Rattle.desk.specs.Answer.{and_then, layout_check, frame_check, desk_check, stopped_by, desk_answer}
use Rattle.desk.specs.Desk.{run_from}
use Rattle.desk.specs.Likewise.{AnsweredLikewise, RunsLikewise}
use Rattle.desk.proofs.Likewise.{pass_likewise, clean_likewise}
use Rattle.desk.proofs.laws.Passed.{passed_run}
use Rattle.desk.specs.Rewritten.{EndsLikewise}

-- ---- code that can be run is not refused

pub frame_passed : {s words : ℕ} → words ≡ s → frame_check s words ≡ Passed
unfolding frame_check
frame_passed {s} {words} e = rw (eq-eqb words s e)

all_passed : (test : ℕ → Cell → ℕ) (cells : List Cell) → ((k : ℕ) → k < length cells → test k (cell_at cells k) ≡ 0) → lowest test 0 cells ≡ Passed
all_passed test cells z = lowest_all test 0 cells (λ k h. rw zero-add (z k h))

module _ (F : Function) (A : Runnable F) where
  operands_passed : operand_check F.sections.locals F.sections.tables F.cells ≡ Passed
  unfolding operand_check
  operands_passed = all_passed (λ p x. operand_refusal F.sections.locals F.sections.tables x) F.cells A.operands

  branches_passed : branch_check_in (suc (length F.cells)) F.cells ≡ Passed
  unfolding branch_check_in branch_inside
  branches_passed = all_passed (λ p x. cond (branch_inside (suc (length F.cells)) p x.instruction) 0 branch_outside) F.cells (λ p h. by p h (branches (class (cell_at F.cells p).instruction)) refl)
    where
      by : (p : ℕ) → p < length F.cells → (t : Bool) → branches (class (cell_at F.cells p).instruction) ≡ t
          → cond (cond (branches (class (cell_at F.cells p).instruction)) (nat_lt (target p (cell_at F.cells p).instruction) (suc (length F.cells))) true) 0 branch_outside ≡ 0
      by p h true e = let l = A.targets p h e in rw (e, lt-ltb (target p (cell_at F.cells p).instruction) (suc (length F.cells)) (omega arith))
      by p h false e = rw e

-- ---- the claim

module _ (u : List ℕ) (kept : List Retained) (lines : List Line) (A : UnitAgain u kept lines) where
  pub again_cells : cells_of (unit_of u (cells_after kept) lines) ≡ cells_after kept
  unfolding given_function result_function
  again_cells = ap (λ (F : Function). F.cells) A.function

  pub again_sections : sections_of (unit_of u (cells_after kept) lines) ≡ sections_of u
  unfolding given_function result_function
  again_sections = ap (λ (F : Function). F.sections) A.function

module _ (u : List ℕ) (kept : List Retained) (lines : List Line) (A : UnitAgain u kept lines) (R : Runnable (result_function (sections_of u) kept))
    (typed : (header_of u).counts.types ≡ (header_of u).counts.locals) (same : RunsLikewise u kept) where
  abbrev v : List ℕ
  v = unit_of u (cells_after kept) lines

  header : header_of v ≡ header_with (header_of u).counts (length kept) (length lines)
  header = sym (layout_unit v _ A.unit).1

  counts : count_check (header_of v).counts ≡ Passed
  unfolding count_check counts_with
  counts = rw (header, eq-eqb (length kept) (length kept) refl, eq-eqb (header_of u).counts.types (header_of u).counts.locals typed)

  cells : cells_of v ≡ cells_after kept
  cells = again_cells u kept lines A

  sections : sections_of v ≡ sections_of u
  sections = again_sections u kept lines A

  not_refused : (words : ℕ) → desk_check v words ≡ frame_check (sections_of u).locals words
  unfolding desk_check and_then layout_check result_function
  not_refused words =
      let operands = operands_passed (result_function (sections_of u) kept) R in
      let branches = branches_passed (result_function (sections_of u) kept) R in
      rw (A.unit, counts, sections, cells, operands, branches)

  likewise : EndsLikewise u (unit_of u (cells_after kept) lines)
  unfolding desk_answer stopped_by
  likewise = record { unrefused = not_refused; ends = λ f k. by f k (desk_check u (length f)) refl }
    where
      by : (f : List ℕ) (k : ℕ) (c : Check) → desk_check u (length f) ≡ c
          → AnsweredLikewise (stopped_by c f (run_from (sections_of u) (cells_of u) k 0 f)) (desk_answer v f k)
      by f k Passed e =
          let long = (passed_run u (length f) e).frame in
          let passed : desk_check v (length f) ≡ Passed = not_refused (length f) ∙ frame_passed long in
          rw (passed, sections, cells) (same k f long)
      by f k (Err r) e = tt

-- one pass
pub pass_desk : (u : List ℕ) (l : Lent) (kept : List Retained) → Bytes u → pass_answer u l ≡ rewritten kept → EndsLikewise u (unit_of u (cells_after kept) (pass_lines u l))
unfolding pass_answer given_function
pass_desk u l kept b e =
    let room = room_for (header_of u).counts l in
    likewise u kept (pass_lines u l) (pass_unit u l kept b e) (answer_returnable u b room kept e).good.runs (answer_worked u room kept e).typed (pass_likewise u l kept b e)

-- and the cleaning
pub clean_desk : (u : List ℕ) (l : Lent) (first second : ℕ) (kept : List Retained) → Bytes u → (clean_answer u l first second).outcome ≡ rewritten kept
    → EndsLikewise u (unit_of u (cells_after kept) (clean_lines u l first second))
unfolding given_function
clean_desk u l first second kept b e =
    let k = clean_kept u b l first second kept e in
    likewise u kept (clean_lines u l first second) (clean_unit u l first second kept b e) k.1.good.runs k.0.typed (clean_likewise u l first second kept b e)
