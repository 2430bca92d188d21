-- Definitions. "Result: words n', 16, 16 + 8n', 16 + 24n'; then code, metadata, and each instruction's old place (32 bits)"; document 02, L3:
-- "The result gains the same section, and its header the same two last words (24 bytes)", so that the words are n', 24, 24 + 8n', 24 + 24n', l', 24 + 28n'
-- Assumes nothing.
use Rattle.std.specs.Prelude.{List, [], ◌∷◌, ◌++◌, ℕ, ◌+◌, ◌*◌, length}
use borrow.Rule.Slice.PartMut.{mid_of}
use Rattle.words.specs.Le.{to_le, u32_at}
use Rattle.words.specs.Lists.{tabulate}
use Rattle.instruction.specs.Instruction.{to_word, instruction_at}
use Rattle.instruction.specs.declared.Instruction.{Instruction}
use Rattle.unit.specs.declared.Metadata.{Metadata}
use Rattle.unit.specs.declared.Line.{Line}
use Rattle.unit.specs.Entry.{metadata_at, metadata_bytes, line_bytes}
use Rattle.unit.specs.Size.{result_header_size, instruction_size, metadata_size, place_size}

-- an instruction of a result with its metadata and its old place
pub record Retained : Type 0 where
  pub instruction : Instruction
  pub metadata : Metadata
  pub place : ℕ

abbrev pub result_metadata_at : ℕ → ℕ
result_metadata_at k = result_header_size + instruction_size * k

abbrev pub result_places_at : ℕ → ℕ
result_places_at k = result_metadata_at k + metadata_size * k

abbrev pub result_lines_at : ℕ → ℕ
result_lines_at k = result_places_at k + place_size * k

unfoldable pub result_header : ℕ → ℕ → List ℕ
result_header k l =
    to_le 4 k ++ to_le 4 result_header_size ++ to_le 4 (result_metadata_at k) ++ to_le 4 (result_places_at k) ++ to_le 4 l ++ to_le 4 (result_lines_at k)

unfoldable pub code_bytes : List Retained → List ℕ
code_bytes [] = []
code_bytes (x ∷ xs) = to_le 8 (to_word x.instruction) ++ code_bytes xs

unfoldable pub metadata_bytes_all : List Retained → List ℕ
metadata_bytes_all [] = []
metadata_bytes_all (x ∷ xs) = metadata_bytes x.metadata ++ metadata_bytes_all xs

unfoldable pub place_bytes : List Retained → List ℕ
place_bytes [] = []
place_bytes (x ∷ xs) = to_le 4 x.place ++ place_bytes xs

unfoldable pub line_bytes_all : List Line → List ℕ
line_bytes_all [] = []
line_bytes_all (x ∷ xs) = line_bytes x ++ line_bytes_all xs

unfoldable pub result_bytes : List Retained → List Line → List ℕ
result_bytes xs ls = result_header (length xs) (length ls) ++ code_bytes xs ++ metadata_bytes_all xs ++ place_bytes xs ++ line_bytes_all ls

-- the instructions whose sections of k entries start at the bytes code, metadata and places
unfoldable pub retained_from : ℕ → ℕ → ℕ → ℕ → List ℕ → List Retained
retained_from k code metadata places b =
    tabulate k
    (λ p.
    record {
      instruction = instruction_at (mid_of code (instruction_size * k) b) p;
      metadata = metadata_at (mid_of metadata (metadata_size * k) b) p;
      place = u32_at (mid_of places (place_size * k) b) (place_size * p);
    })

-- a result at the front of a buffer, read back as a caller reads it: by the four words of its header
unfoldable pub read_result : List ℕ → List Retained
read_result b = retained_from (u32_at b 0) (u32_at b 4) (u32_at b 8) (u32_at b 12) b
