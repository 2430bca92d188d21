-- The function of a unit again: its cells are those that were laid out, and its other sections are the given unit's.
-- Assumes nothing.
use Rattle.std.specs.Prelude.{◌≡◌, List, ℕ, suc, ◌<◌, length, take, drop}
use Rattle.std.proofs.Math.Path.{ap}
use Rattle.std.proofs.Common.{◌∙◌, ext_get_or}
use Rattle.std.proofs.lemmas.List.{length-map}
use Rattle.std.proofs.Math.ListN.{get_or-map}
use Rattle.words.specs.laws.Le.{length_to_le}
use Rattle.instruction.specs.Instruction.{instruction_at}
use Rattle.instruction.specs.laws.ReadBack.{read_back}
use Rattle.unit.specs.Entry.{metadata_at}
use Rattle.unit.specs.Layout.{header_of, code_of, metadata_of}
use Rattle.unit.specs.Result.{Retained}
use Rattle.unit.specs.laws.UnitLaws.{WellFormed, metadata_read_back, metadata_bytes_long}
use Rattle.unit.specs.declared.Header.{Header}
use Rattle.unit.specs.declared.Line.{Line}
use Rattle.effects.specs.Shape.{Cell, cell_at, no_cell}
use Rattle.answer.specs.Answer.{cells_of, sections_of}
use Rattle.answer.specs.Clean.{retained_cell, cells_after}
use Rattle.run.proofs.Given.{cell_at_lem, cells_long}
use Rattle.run.specs.Returned.{given_function, result_function}
use Rattle.run.specs.laws.Reading.{AllFit, no_retained, retained_at}
use Rattle.again.specs.Again.{counts_with, bytes_of, cell_code, cell_metadata, unit_of}
use Rattle.again.specs.laws.Entries.{around, ahead_long}
use Rattle.again.proofs.laws.Laid.{Small, again_header, again_code, again_metadata, again_types, again_constants, again_functions, again_externs, again_cases}
use Rattle.again.specs.laws.Function.{AllFields}

pub retained_at_lem : (kept : List Retained) (p : ℕ) → cell_at (cells_after kept) p ≡ retained_cell (retained_at kept p)
retained_at_lem kept p = get_or-map retained_cell kept p no_retained

pub all_fit : (cases : ℕ) (kept : List Retained) → AllFit cases kept → AllFields (cells_after kept)
all_fit cases kept f =
    record {
      instructions = λ p h. rw (retained_at_lem kept p) (f p (rw (length-map kept retained_cell) at h)).instruction;
      metadata = λ p h. rw (retained_at_lem kept p) (f p (rw (length-map kept retained_cell) at h)).metadata.fits;
    }

-- ---- each entry is read back

module _ (cells : List Cell) (f : AllFields cells) (p : ℕ) (h : p < length cells) where
  pub instruction_back : instruction_at (bytes_of cell_code cells) p ≡ (cell_at cells p).instruction
  instruction_back =
      ap (λ (l : List ℕ). instruction_at l p) (around cell_code cells p no_cell h)
      ∙ read_back (bytes_of cell_code (take p cells)) (bytes_of cell_code (drop (suc p) cells)) p (cell_at cells p).instruction (ahead_long cell_code 8 (λ x. length_to_le 8 _) cells p h) (f.instructions p h)

  pub metadata_back : metadata_at (bytes_of cell_metadata cells) p ≡ (cell_at cells p).metadata
  metadata_back =
      ap (λ (l : List ℕ). metadata_at l p) (around cell_metadata cells p no_cell h)
      ∙ metadata_read_back (bytes_of cell_metadata (take p cells)) (bytes_of cell_metadata (drop (suc p) cells)) p (cell_at cells p).metadata
      (ahead_long cell_metadata 16 (λ x. metadata_bytes_long x.metadata) cells p h) (f.metadata p h)

-- ---- the function

module _ {u : List ℕ} (w : WellFormed u) (cells : List Cell) (lines : List Line) (small : Small (header_of u).counts (length cells) (length lines)) where
  pub again_many : (header_of (unit_of u cells lines)).counts.instructions ≡ length cells
  unfolding counts_with
  again_many = ap (λ (x : Header). x.counts.instructions) (again_header w cells lines small)

  pub again_described : (header_of (unit_of u cells lines)).counts.metadata ≡ length cells
  unfolding counts_with
  again_described = ap (λ (x : Header). x.counts.metadata) (again_header w cells lines small)

  pub again_cells : AllFields cells → cells_of (unit_of u cells lines) ≡ cells
  again_cells f =
      let many : length (cells_of (unit_of u cells lines)) ≡ length cells = cells_long (unit_of u cells lines) ∙ again_many in
      ext_get_or no_cell (cells_of (unit_of u cells lines)) cells many
      (λ p h.
      let l : p < length cells = rw many at h in
      let code : instruction_at (code_of (unit_of u cells lines)) p ≡ (cell_at cells p).instruction = ap (λ (b : List ℕ). instruction_at b p) (again_code w cells lines small) ∙ instruction_back cells f p l in
      let metadata : metadata_at (metadata_of (unit_of u cells lines)) p ≡ (cell_at cells p).metadata = ap (λ (b : List ℕ). metadata_at b p) (again_metadata w cells lines small) ∙ metadata_back cells f p l in
      cell_at_lem (unit_of u cells lines) p (rw again_many l) ∙ rw (code, metadata))

  pub again_sections : sections_of (unit_of u cells lines) ≡ sections_of u
  unfolding sections_of counts_with
  again_sections =
      let locals : (header_of (unit_of u cells lines)).counts.locals ≡ (header_of u).counts.locals = ap (λ (x : Header). x.counts.locals) (again_header w cells lines small) in
      rw (
        again_types w cells lines small,
        again_constants w cells lines small,
        again_functions w cells lines small,
        again_externs w cells lines small,
        again_cases w cells lines small,
        locals,
      )

-- the function of a result laid out again is the result's
pub again_function : {u : List ℕ} (w : WellFormed u) (cases : ℕ) (kept : List Retained) (lines : List Line) → AllFit cases kept
    → Small (header_of u).counts (length kept) (length lines) → given_function (unit_of u (cells_after kept) lines) ≡ result_function (sections_of u) kept
unfolding given_function result_function
again_function {u} w cases kept lines fits small =
    let long : length (cells_after kept) ≡ length kept = length-map kept retained_cell in
    let size : Small (header_of u).counts (length (cells_after kept)) (length lines) = rw long small in
    rw (
      again_cells w (cells_after kept) lines size (all_fit cases kept fits),
      again_sections w (cells_after kept) lines size,
      again_described w (cells_after kept) lines size,
      long,
    )
