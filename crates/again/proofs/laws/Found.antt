-- A result found at the front of a buffer: what is read of it has the bytes that stand there, and so has the unit again.
-- Assumes nothing.
use Rattle.std.specs.Prelude.{◌≡◌, refl, true, ℕ, zero, suc, ◌+◌, ◌-◌, ◌*◌, ◌/◌}
use Rattle.std.proofs.Common.{sym, ◌∙◌, arith, eqb-true, eq-eqb, leb-true, le-leb}
use Rattle.std.proofs.Math.Path.{ap}
use mathlib.Core.List.{List, ◌∷◌, ◌++◌, map, append_assoc}
use Rattle.std.proofs.Math.ListN.{length, length-map}
use borrow.Rule.Slice.PartMut.{mid_of}
use Rattle.words.specs.Bytes.{Bytes}
use Rattle.words.specs.laws.Bytes.{bytes_mid}
use Rattle.words.specs.Le.{u32_at}
use Rattle.words.specs.Lists.{tabulate, tabulate_from}
use Rattle.words.specs.laws.Lists.{length_tabulate}
use Rattle.words.specs.laws.Regions.{mid_long, mid_add}
use Rattle.words.specs.laws.Truth.{both}
use Rattle.unit.specs.Entry.{line_at, line_bytes}
use Rattle.unit.specs.Layout.{header_of, types_of, constants_of, functions_of, externs_of, cases_of}
use Rattle.unit.specs.Result.{Retained, read_result, retained_from, result_metadata_at, result_places_at, result_lines_at}
use Rattle.unit.specs.Size.{instruction_size, metadata_size, constant_size, function_size, extern_size, case_size, line_size, result_header_size, result_size}
use Rattle.unit.specs.laws.UnitLaws.{WellFormed}
use Rattle.unit.specs.declared.Counts.{Counts}
use Rattle.answer.specs.Clean.{retained_cell, cells_after}
use Rattle.run.specs.laws.Reading.{code_in, metadata_in, retained_in}
use Rattle.again.specs.Again.{header_with, header_bytes, bytes_of, cell_code, cell_metadata, unit_of}
use Rattle.again.specs.LaidOut.{read_lines, has_offsets, is_result_of, laid_unit}
use Rattle.again.specs.laws.Laid.{size_with}
use Rattle.again.proofs.laws.Laid.{again_long}
use Rattle.again.proofs.laws.Same.{instruction_same, metadata_same, line_same, entries_same}
use Rattle.again.specs.laws.Found.{ResultOf}

pub result_of : (c : Counts) (b : List ℕ) → is_result_of c b ≡ true → ResultOf c b
unfolding is_result_of has_offsets
result_of c b e =
    let lined = both _ _ e in
    let described = both _ _ lined.0 in
    let instructions = both _ _ described.0 in
    let whole = both _ _ instructions.0 in
    let header = both _ _ whole.0 in
    let lines = both _ _ header.1 in
    let places = both _ _ lines.0 in
    let metadata = both _ _ places.0 in
    record {
      header = leb-true _ _ header.0;
      code = eqb-true _ _ metadata.0;
      metadata = eqb-true _ _ metadata.1;
      places = eqb-true _ _ places.1;
      lines = eqb-true _ _ lines.1;
      whole = leb-true _ _ whole.1;
      instructions = leb-true _ _ instructions.1;
      described = leb-true _ _ described.1;
      lined = leb-true _ _ lined.1;
    }

pub of_result : (c : Counts) (b : List ℕ) → ResultOf c b → is_result_of c b ≡ true
unfolding is_result_of has_offsets
of_result c b r =
    rw (
      le-leb result_header_size (length b) r.header,
      eq-eqb (u32_at b 4) result_header_size r.code,
      eq-eqb (u32_at b 8) (result_metadata_at (u32_at b 0)) r.metadata,
      eq-eqb (u32_at b 12) (result_places_at (u32_at b 0)) r.places,
      eq-eqb (u32_at b 20) (result_lines_at (u32_at b 0)) r.lines,
      le-leb (result_size (u32_at b 0) (u32_at b 16)) (length b) r.whole,
      le-leb (u32_at b 0) c.instructions r.instructions,
      le-leb (u32_at b 0) c.metadata r.described,
      le-leb (u32_at b 16) c.lines r.lined,
    )

-- ---- what is read of it

map_from_lem : {A B : Type 0} (g : A → B) (f : ℕ → A) (p n : ℕ) → map g (tabulate_from p n f) ≡ tabulate_from p n (λ i. g (f i))
unfolding tabulate_from
map_from_lem g f p zero = refl
map_from_lem {A} {B} g f p (suc n) = ap (λ (l : List B). g (f p) ∷ l) (map_from_lem g f (suc p) n)

map_tabulate : {A B : Type 0} (g : A → B) (f : ℕ → A) (n : ℕ) → map g (tabulate n f) ≡ tabulate n (λ i. g (f i))
unfolding tabulate
map_tabulate g f n = map_from_lem g f 0 n

-- the bytes of its lines
abbrev pub lines_bytes_in : List ℕ → List ℕ
lines_bytes_in b = mid_of (result_lines_at (u32_at b 0)) (line_size * u32_at b 16) b

module _ {c : Counts} {b : List ℕ} (r : ResultOf c b) where
  abbrev n : ℕ
  n = u32_at b 0

  read_in : read_result b ≡ retained_in n b
  unfolding read_result
  read_in = rw (r.code, r.metadata, r.places)

  pub read_many : length (cells_after (read_result b)) ≡ u32_at b 0
  unfolding read_result retained_from
  read_many = length-map (read_result b) retained_cell ∙ length_tabulate n _

  lines_in_lem : read_lines b ≡ tabulate (length (lines_bytes_in b) / line_size) (line_at (lines_bytes_in b))
  unfolding read_lines
  lines_in_lem = rw r.lines

  lines_bytes : length (lines_bytes_in b) ≡ line_size * u32_at b 16
  lines_bytes = let whole = r.whole in mid_long b (result_lines_at n) (line_size * u32_at b 16) (omega arith)

  pub read_lined : length (read_lines b) ≡ u32_at b 16
  read_lined = let long = lines_bytes in ap length lines_in_lem ∙ length_tabulate (length (lines_bytes_in b) / line_size) (line_at (lines_bytes_in b)) ∙ omega arith

  module _ (bytes : Bytes b) where
    code_read : bytes_of cell_code (cells_after (read_result b)) ≡ code_in (u32_at b 0) b
    unfolding retained_from
    code_read =
        let whole = r.whole in
        let long : length (code_in n b) ≡ instruction_size * n = mid_long b result_header_size (instruction_size * n) (omega arith) in
        ap (λ (l : List Retained). bytes_of cell_code (cells_after l)) read_in
        ∙ ap (bytes_of cell_code) (map_tabulate retained_cell _ n)
        ∙ entries_same cell_code 8 _ (code_in n b) n long
        (λ p h. instruction_same (code_in n b) (bytes_mid result_header_size (instruction_size * n) b bytes) p (omega arith))

    metadata_read : bytes_of cell_metadata (cells_after (read_result b)) ≡ metadata_in (u32_at b 0) b
    unfolding retained_from
    metadata_read =
        let whole = r.whole in
        let long : length (metadata_in n b) ≡ metadata_size * n = mid_long b (result_metadata_at n) (metadata_size * n) (omega arith) in
        ap (λ (l : List Retained). bytes_of cell_metadata (cells_after l)) read_in
        ∙ ap (bytes_of cell_metadata) (map_tabulate retained_cell _ n)
        ∙ entries_same cell_metadata 16 _ (metadata_in n b) n long
        (λ p h. metadata_same (metadata_in n b) (bytes_mid (result_metadata_at n) (metadata_size * n) b bytes) p (omega arith))

    lines_read : bytes_of line_bytes (read_lines b) ≡ lines_bytes_in b
    lines_read =
        let long = lines_bytes in
        ap (bytes_of line_bytes) lines_in_lem
        ∙ entries_same line_bytes 8 (line_at (lines_bytes_in b)) (lines_bytes_in b) (length (lines_bytes_in b) / line_size) (omega arith)
        (λ k h. line_same (lines_bytes_in b) (bytes_mid (result_lines_at n) (line_size * u32_at b 16) b bytes) k (omega arith))

-- ---- the unit again, by the bytes of unit and buffer

-- what stands between a unit's metadata and its lines
abbrev pub others_of : List ℕ → List ℕ
others_of u = mid_of (header_of u).offsets.types ((header_of u).offsets.lines - (header_of u).offsets.types) u

module _ {u : List ℕ} (w : WellFormed u) where
  more : (a : List ℕ) (s i j k : ℕ) → a ≡ mid_of s i u → j ≡ s + i → a ++ mid_of j k u ≡ mid_of s (i + k) u
  more a s i j k e f = rw (e, f) (sym (mid_add u s i k))

  others : types_of u ++ constants_of u ++ functions_of u ++ externs_of u ++ cases_of u ≡ others_of u
  others =
      let s = w.sections in
      let c = (header_of u).counts in
      let at = (header_of u).offsets.types in
      let constants = more (types_of u) at c.types (header_of u).offsets.constants (constant_size * c.constants) refl s.constants in
      let functions =
      more (types_of u ++ constants_of u) at (c.types + constant_size * c.constants) (header_of u).offsets.functions (function_size * c.functions) constants (omega (arith, s.constants, s.functions)) in
      let externs =
      more (types_of u ++ constants_of u ++ functions_of u) at (c.types + constant_size * c.constants + function_size * c.functions) (header_of u).offsets.externs (extern_size * c.externs) functions
      (omega (arith, s.constants, s.functions, s.externs)) in
      let cases =
      more (types_of u ++ constants_of u ++ functions_of u ++ externs_of u) at (c.types + constant_size * c.constants + function_size * c.functions + extern_size * c.externs) (header_of u).offsets.cases
      (case_size * c.cases) externs (omega (arith, s.constants, s.functions, s.externs, s.cases)) in
      let all : c.types + constant_size * c.constants + function_size * c.functions + extern_size * c.externs + case_size * c.cases ≡ (header_of u).offsets.lines - at =
      omega (arith, s.constants, s.functions, s.externs, s.cases, s.lines) in
      cases ∙ ap (λ (k : ℕ). mid_of at k u) all

  module _ {b : List ℕ} (r : ResultOf (header_of u).counts b) where
    pub again_size : length (laid_unit u b) ≡ size_with (header_of u).counts (u32_at b 0) (u32_at b 16)
    again_size = again_long w (cells_after (read_result b)) (read_lines b) ∙ rw (read_many r, read_lined r)

    pub again_parts : Bytes b
        → laid_unit u b ≡ header_bytes (header_with (header_of u).counts (u32_at b 0) (u32_at b 16)) ++ code_in (u32_at b 0) b ++ metadata_in (u32_at b 0) b ++ others_of u ++ lines_bytes_in b
    unfolding unit_of
    again_parts bytes =
        rw (read_many r, read_lined r, code_read r bytes, metadata_read r bytes, lines_read r bytes, ← others) (simp append_assoc)
