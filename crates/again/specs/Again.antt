-- Definitions. A unit again: code, metadata and lines laid out with another unit's other sections and numbers, so that a result can be given as a unit.
-- Assumes nothing.
use Rattle.std.specs.Prelude.{List, [], ◌∷◌, ◌++◌, ℕ, ◌+◌, ◌*◌, length}
use Rattle.words.specs.Le.{to_le}
use Rattle.instruction.specs.Instruction.{to_word}
use Rattle.unit.specs.Entry.{metadata_bytes, line_bytes}
use Rattle.unit.specs.Layout.{header_of, types_of, constants_of, functions_of, externs_of, cases_of}
use Rattle.unit.specs.Size.{header_size, instruction_size, metadata_size, constant_size, function_size, extern_size, case_size}
use Rattle.unit.specs.declared.Counts.{Counts}
use Rattle.unit.specs.declared.Header.{Header}
use Rattle.unit.specs.declared.Line.{Line}
use Rattle.unit.specs.declared.Offsets.{Offsets}
use Rattle.effects.specs.Shape.{Cell}

-- n instructions, each with its metadata, and l lines; all else is counted as before
unfoldable pub counts_with : Counts → ℕ → ℕ → Counts
counts_with c n l =
    record {
      instructions = n;
      metadata = n;
      locals = c.locals;
      types = c.types;
      defer = c.defer;
      constants = c.constants;
      functions = c.functions;
      externs = c.externs;
      cases = c.cases;
      lines = l;
    }

-- "Sections follow in that order .., without gaps": each starts where the one before it ends
unfoldable pub offsets_of : Counts → Offsets
offsets_of c =
    let metadata = header_size + instruction_size * c.instructions in
    let types = metadata + metadata_size * c.metadata in
    let constants = types + c.types in
    let functions = constants + constant_size * c.constants in
    let externs = functions + function_size * c.functions in
    let cases = externs + extern_size * c.externs in
    let lines = cases + case_size * c.cases in
    record {
      code = header_size;
      metadata = metadata;
      types = types;
      constants = constants;
      functions = functions;
      externs = externs;
      cases = cases;
      lines = lines;
    }

-- the header of those counts
abbrev pub header_with : Counts → ℕ → ℕ → Header
header_with c n l = record { counts = counts_with c n l; offsets = offsets_of (counts_with c n l) }

-- the words of a header in their order: counts, offsets, and the two of the lines
unfoldable pub header_words : Header → List ℕ
header_words h =
    h.counts.instructions
    ∷ h.counts.metadata
    ∷ h.counts.locals
    ∷ h.counts.types
    ∷ h.counts.defer
    ∷ h.counts.constants
    ∷ h.counts.functions
    ∷ h.counts.externs
    ∷ h.counts.cases
    ∷ h.offsets.code
    ∷ h.offsets.metadata
    ∷ h.offsets.types
    ∷ h.offsets.constants
    ∷ h.offsets.functions
    ∷ h.offsets.externs
    ∷ h.offsets.cases
    ∷ h.counts.lines
    ∷ h.offsets.lines
    ∷ []

-- the bytes of entries, one after the other
unfoldable pub bytes_of : {A : Type 0} → (A → List ℕ) → List A → List ℕ
bytes_of bytes [] = []
bytes_of bytes (x ∷ xs) = bytes x ++ bytes_of bytes xs

-- the bytes of a header, of an instruction, and of its metadata
abbrev pub header_bytes : Header → List ℕ
header_bytes h = bytes_of (to_le 4) (header_words h)

abbrev pub cell_code : Cell → List ℕ
cell_code x = to_le 8 (to_word x.instruction)

abbrev pub cell_metadata : Cell → List ℕ
cell_metadata x = metadata_bytes x.metadata

-- a result laid out as a unit again: its code, metadata and lines, with the given unit's other sections and numbers
unfoldable pub unit_of : List ℕ → List Cell → List Line → List ℕ
unit_of u cells lines =
    header_bytes (header_with (header_of u).counts (length cells) (length lines))
    ++ bytes_of cell_code cells
    ++ bytes_of cell_metadata cells
    ++ types_of u
    ++ constants_of u
    ++ functions_of u
    ++ externs_of u
    ++ cases_of u
    ++ bytes_of line_bytes lines
