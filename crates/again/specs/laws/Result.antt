-- Code, metadata and lines of a unit again are the bytes of the result that was laid out.
-- Assumes nothing.
use Rattle.std.specs.Prelude.{◌≡◌, refl, List, [], ◌∷◌, ◌++◌, ℕ}
use Rattle.std.proofs.Common.{ap}
use Rattle.unit.specs.Entry.{metadata_bytes, line_bytes}
use Rattle.unit.specs.Result.{Retained, code_bytes, metadata_bytes_all, line_bytes_all}
use Rattle.unit.specs.declared.Line.{Line}
use Rattle.answer.specs.Clean.{retained_cell, cells_after}
use Rattle.again.specs.Again.{bytes_of, cell_code, cell_metadata}

pub result_code : (kept : List Retained) → bytes_of cell_code (cells_after kept) ≡ code_bytes kept
unfolding bytes_of code_bytes
result_code [] = refl
result_code (r ∷ rs) = ap (λ (l : List ℕ). cell_code (retained_cell r) ++ l) (result_code rs)

pub result_metadata : (kept : List Retained) → bytes_of cell_metadata (cells_after kept) ≡ metadata_bytes_all kept
unfolding bytes_of metadata_bytes_all
result_metadata [] = refl
result_metadata (r ∷ rs) = ap (λ (l : List ℕ). metadata_bytes r.metadata ++ l) (result_metadata rs)

pub result_lines : (lines : List Line) → bytes_of line_bytes lines ≡ line_bytes_all lines
unfolding bytes_of line_bytes_all
result_lines [] = refl
result_lines (x ∷ xs) = ap (λ (l : List ℕ). line_bytes x ++ l) (result_lines xs)
