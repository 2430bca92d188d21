-- The header and the sections of a unit again.
-- Assumes nothing.
use Rattle.std.specs.Prelude.{◌≡◌, refl, ℕ, suc, ◌+◌, ◌*◌, ◌^◌, ◌<◌, get_or, take, drop}
use Rattle.std.proofs.Common.{sym, ◌∙◌, zero-add, arith}
use Rattle.std.proofs.Math.Path.{ap}
use mathlib.Core.List.{List, [], ◌∷◌, append_assoc, append-nil}
use Rattle.std.proofs.Math.ListN.{length}
use borrow.Rule.Slice.PartMut.{mid_of}
use Rattle.words.specs.Le.{to_le, from_le, u32_at}
use Rattle.words.specs.laws.Le.{length_to_le, from_to}
use Rattle.words.specs.laws.Inside.{mid_inside}
use Rattle.unit.specs.Entry.{line_bytes}
use Rattle.unit.specs.Layout.{header_of, code_of, metadata_of, types_of, constants_of, functions_of, externs_of, cases_of, lines_of}
use Rattle.unit.specs.Size.{header_size, instruction_size, metadata_size, constant_size, function_size, extern_size, case_size, line_size}
use Rattle.unit.specs.laws.UnitLaws.{WellFormed, metadata_bytes_long}
use Rattle.unit.specs.declared.Counts.{Counts}
use Rattle.unit.specs.declared.Header.{Header}
use Rattle.unit.specs.declared.Line.{Line}
use Rattle.effects.specs.Shape.{Cell}
use Rattle.run.specs.laws.Reading.{middle}
use Rattle.again.specs.Again.{counts_with, offsets_of, header_with, header_words, bytes_of, header_bytes, cell_code, cell_metadata, unit_of}
use Rattle.again.specs.laws.Entries.{around, next_long, bytes_long, entry_mid}
use Rattle.again.specs.laws.Laid.{size_with}

-- the numbers of its header fit 32 bits: no count but that of the lines is above the last offset
pub record Small (c : Counts) (n l : ℕ) : Type 0 where
  pub offset : (offsets_of (counts_with c n l)).lines < 2 ^ 32
  pub lines : l < 2 ^ 32

pub words_long : (h : Header) → length (header_words h) ≡ 18
unfolding header_words
words_long h = refl

pub header_long : (h : Header) → length (header_bytes h) ≡ header_size
header_long h = bytes_long (to_le 4) 4 (length_to_le 4) (header_words h) ∙ rw (words_long h)

pub code_long : (cells : List Cell) → length (bytes_of cell_code cells) ≡ instruction_size * length cells
code_long = bytes_long cell_code 8 (λ x. length_to_le 8 _)

pub metadata_long : (cells : List Cell) → length (bytes_of cell_metadata cells) ≡ metadata_size * length cells
metadata_long = bytes_long cell_metadata 16 (λ x. metadata_bytes_long x.metadata)

pub line_long : (e : Line) → length (line_bytes e) ≡ line_size
unfolding line_bytes to_le
line_long e = refl

pub lines_long : (lines : List Line) → length (bytes_of line_bytes lines) ≡ line_size * length lines
lines_long = bytes_long line_bytes 8 line_long

module _ {u : List ℕ} (w : WellFormed u) (cells : List Cell) (lines : List Line) where
  abbrev c : Counts
  c = (header_of u).counts

  abbrev h : Header
  h = header_with (header_of u).counts (length cells) (length lines)

  abbrev parts : List (List ℕ)
  parts =
      header_bytes (header_with (header_of u).counts (length cells) (length lines))
      ∷ bytes_of cell_code cells
      ∷ bytes_of cell_metadata cells
      ∷ types_of u
      ∷ constants_of u
      ∷ functions_of u
      ∷ externs_of u
      ∷ cases_of u
      ∷ bytes_of line_bytes lines
      ∷ []

  abbrev joined : List (List ℕ) → List ℕ
  joined = bytes_of (λ (x : List ℕ). x)

  joins : unit_of u cells lines ≡ joined parts
  unfolding unit_of bytes_of
  joins = simp (append_assoc, append-nil)

  -- part k, behind i bytes
  part_at : (k i n : ℕ) → k < 9 → length (joined (take k parts)) ≡ i → length (get_or parts k []) ≡ n → mid_of i n (unit_of u cells lines) ≡ get_or parts k []
  part_at k i n l e f =
      ap (mid_of i n) (joins ∙ around (λ (x : List ℕ). x) parts k [] l)
      ∙ middle (joined (take k parts)) (get_or parts k []) (joined (drop (suc k) parts)) i n e f

  -- ---- where each part starts

  -- as many bytes stand before part k
  abbrev Starts : ℕ → ℕ → Type 0
  Starts k i = length (joined (take k parts)) ≡ i

  next : (k i n : ℕ) → k < 9 → Starts k i → length (get_or parts k []) ≡ n → Starts (suc k) (i + n)
  next k i n l e f = next_long (λ (x : List ℕ). x) parts k [] l ∙ rw (e, f)

  code_starts : Starts 1 header_size
  unfolding bytes_of
  code_starts = rw append-nil (header_long h)

  metadata_starts : Starts 2 h.offsets.metadata
  unfolding offsets_of counts_with
  metadata_starts = next 1 header_size (instruction_size * length cells) (omega arith) code_starts (code_long cells)

  types_starts : Starts 3 h.offsets.types
  unfolding offsets_of counts_with
  types_starts = next 2 h.offsets.metadata (metadata_size * length cells) (omega arith) metadata_starts (metadata_long cells)

  constants_starts : Starts 4 h.offsets.constants
  unfolding offsets_of counts_with
  constants_starts = next 3 h.offsets.types c.types (omega arith) types_starts w.lengths.types

  functions_starts : Starts 5 h.offsets.functions
  unfolding offsets_of counts_with
  functions_starts = next 4 h.offsets.constants (constant_size * c.constants) (omega arith) constants_starts w.lengths.constants

  externs_starts : Starts 6 h.offsets.externs
  unfolding offsets_of counts_with
  externs_starts = next 5 h.offsets.functions (function_size * c.functions) (omega arith) functions_starts w.lengths.functions

  cases_starts : Starts 7 h.offsets.cases
  unfolding offsets_of counts_with
  cases_starts = next 6 h.offsets.externs (extern_size * c.externs) (omega arith) externs_starts w.lengths.externs

  lines_starts : Starts 8 h.offsets.lines
  unfolding offsets_of counts_with
  lines_starts = next 7 h.offsets.cases (case_size * c.cases) (omega arith) cases_starts w.lengths.cases

  pub again_long : length (unit_of u cells lines) ≡ size_with (header_of u).counts (length cells) (length lines)
  again_long = ap length joins ∙ next 8 h.offsets.lines (line_size * length lines) (omega arith) lines_starts (lines_long lines)

  -- ---- the header

  word_at : (q : ℕ) → q < 18 → get_or (header_words h) q 0 < 2 ^ 32 → u32_at (unit_of u cells lines) (4 * q) ≡ get_or (header_words h) q 0
  unfolding bytes_of
  word_at q l fits =
      ap from_le
      (ap (mid_of (4 * q) 4) joins
      ∙ ap (λ (i : ℕ). mid_of i 4 (joined parts)) (sym (zero-add (4 * q)))
      ∙ mid_inside [] (header_bytes h) (joined (drop 1 parts)) (4 * q) 4 (rw (header_long h) (omega arith))
      ∙ entry_mid (to_le 4) 4 (length_to_le 4) (header_words h) q 0 (rw (words_long h) l))
      ∙ from_to 4 (get_or (header_words h) q 0) fits

  module _ (small : Small (header_of u).counts (length cells) (length lines)) where
    pub again_header : header_of (unit_of u cells lines) ≡ header_with (header_of u).counts (length cells) (length lines)
    unfolding header_of header_words counts_with offsets_of
    again_header =
        let locals = w.locals in
        let defer = w.defer in
        let last = small.offset in
        let many = small.lines in
        rw (
          word_at 0 (omega arith) (omega arith),
          word_at 1 (omega arith) (omega arith),
          word_at 2 (omega arith) (omega arith),
          word_at 3 (omega arith) (omega arith),
          word_at 4 (omega arith) (omega arith),
          word_at 5 (omega arith) (omega arith),
          word_at 6 (omega arith) (omega arith),
          word_at 7 (omega arith) (omega arith),
          word_at 8 (omega arith) (omega arith),
          word_at 9 (omega arith) (omega arith),
          word_at 10 (omega arith) (omega arith),
          word_at 11 (omega arith) (omega arith),
          word_at 12 (omega arith) (omega arith),
          word_at 13 (omega arith) (omega arith),
          word_at 14 (omega arith) (omega arith),
          word_at 15 (omega arith) (omega arith),
          word_at 16 (omega arith) (omega arith),
          word_at 17 (omega arith) (omega arith),
        )

    -- ---- the sections

    -- the section that the header finds
    found : (k : ℕ) (at size : Header → ℕ) → k < 9 → Starts k (at h) → length (get_or parts k []) ≡ size h
        → mid_of (at (header_of (unit_of u cells lines))) (size (header_of (unit_of u cells lines))) (unit_of u cells lines) ≡ get_or parts k []
    found k at size l e f =
        ap (λ (x : Header). mid_of (at x) (size x) (unit_of u cells lines)) again_header ∙ part_at k (at h) (size h) l e f

    pub again_code : code_of (unit_of u cells lines) ≡ bytes_of cell_code cells
    unfolding offsets_of counts_with
    again_code = found 1 (λ x. x.offsets.code) (λ x. instruction_size * x.counts.instructions) (omega arith) code_starts (code_long cells)

    pub again_metadata : metadata_of (unit_of u cells lines) ≡ bytes_of cell_metadata cells
    unfolding counts_with
    again_metadata = found 2 (λ x. x.offsets.metadata) (λ x. metadata_size * x.counts.metadata) (omega arith) metadata_starts (metadata_long cells)

    pub again_types : types_of (unit_of u cells lines) ≡ types_of u
    unfolding counts_with
    again_types = found 3 (λ x. x.offsets.types) (λ x. x.counts.types) (omega arith) types_starts w.lengths.types

    pub again_constants : constants_of (unit_of u cells lines) ≡ constants_of u
    unfolding counts_with
    again_constants = found 4 (λ x. x.offsets.constants) (λ x. constant_size * x.counts.constants) (omega arith) constants_starts w.lengths.constants

    pub again_functions : functions_of (unit_of u cells lines) ≡ functions_of u
    unfolding counts_with
    again_functions = found 5 (λ x. x.offsets.functions) (λ x. function_size * x.counts.functions) (omega arith) functions_starts w.lengths.functions

    pub again_externs : externs_of (unit_of u cells lines) ≡ externs_of u
    unfolding counts_with
    again_externs = found 6 (λ x. x.offsets.externs) (λ x. extern_size * x.counts.externs) (omega arith) externs_starts w.lengths.externs

    pub again_cases : cases_of (unit_of u cells lines) ≡ cases_of u
    unfolding counts_with
    again_cases = found 7 (λ x. x.offsets.cases) (λ x. case_size * x.counts.cases) (omega arith) cases_starts w.lengths.cases

    pub again_lines : lines_of (unit_of u cells lines) ≡ bytes_of line_bytes lines
    unfolding counts_with
    again_lines = found 8 (λ x. x.offsets.lines) (λ x. line_size * x.counts.lines) (omega arith) lines_starts (lines_long lines)
