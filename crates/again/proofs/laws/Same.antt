-- A unit of bytes whose every instruction has its metadata, laid out again of its own cells and lines, is itself.
-- Assumes nothing.
use Rattle.std.specs.Prelude.{◌≡◌, true, List, [], ◌∷◌, ◌++◌, length}
use Rattle.std.proofs.Math.Path.{refl, ap}
use Rattle.std.proofs.Common.{sym, ◌∙◌, mul-zero, zero-add}
use Prim.Native.Nat.{ℕ, zero, suc, ◌+◌, ◌*◌, ◌/◌, ◌%◌, ◌≤◌, ◌<◌}
use Rattle.std.proofs.Math.Nat.{mul-suc}
use native.Mathlib.Omega.{arith}
use Rattle.std.proofs.Math.ListN.{get_or}
use Rattle.std.proofs.Math.Seq.{take_all}
use borrow.Rule.Slice.PartMut.{mid_of}
use Rattle.words.specs.Bytes.{Bytes}
use Rattle.words.specs.laws.Bytes.{bytes_mid}
use Rattle.words.specs.Le.{to_le, from_le, le_at, u16_at, u32_at, u64_at}
use Rattle.words.specs.laws.Le.{u16_bytes, u32_halves, u64_halves}
use Rattle.words.specs.Lists.{tabulate, tabulate_from}
use Rattle.words.specs.laws.Lists.{length_tabulate}
use Rattle.words.specs.laws.Regions.{mid_long, mid_add}
use Rattle.instruction.specs.Instruction.{to_word, instruction_at}
use Rattle.unit.specs.Entry.{metadata_at, metadata_bytes, line_at, line_bytes, lines_in}
use Rattle.unit.specs.Layout.{header_of, is_unit, code_of, metadata_of, types_of, constants_of, functions_of, externs_of, cases_of, lines_of}
use Rattle.unit.specs.Size.{header_size, instruction_size, metadata_size, line_size}
use Rattle.unit.specs.laws.UnitLaws.{WellFormed, metadata_words}
use Rattle.unit.proofs.laws.UnitLaws.{unit_laid}
use Rattle.answer.specs.Answer.{cells_of}
use Rattle.run.proofs.Given.{cells_long, metadata_fields}
use Rattle.again.specs.Again.{counts_with, offsets_of, header_with, header_words, bytes_of, header_bytes, cell_code, cell_metadata, unit_of}

-- ---- numbers

to_from : (k : ℕ) (l : List ℕ) → Bytes l → length l ≡ k → to_le k (from_le l) ≡ l
unfolding to_le from_le
to_from zero [] b e = refl
to_from zero (x ∷ l) b e = absurd (omega arith)
to_from (suc k) [] b e = absurd (omega arith)
to_from (suc k) (x ∷ l) b e =
    let low : x < 256 = b 0 in
    let first : (x + 256 * from_le l) % 256 ≡ x = omega arith in
    let rest : (x + 256 * from_le l) / 256 ≡ from_le l = omega arith in
    rw (first, rest, to_from k l (λ i. b (suc i)) (omega arith))

-- ---- the entries of a section of bytes

module _ (l : List ℕ) (b : Bytes l) where
  number_same : (k i : ℕ) → i + k ≤ length l → to_le k (le_at k l i) ≡ mid_of i k l
  number_same k i h = to_from k (mid_of i k l) (bytes_mid i k l b) (mid_long l i k h)

  pub instruction_same : (p : ℕ) → 8 * p + 8 ≤ length l → to_le 8 (to_word (instruction_at l p)) ≡ mid_of (8 * p) 8 l
  unfolding to_word instruction_at
  instruction_same p h =
      let last : 8 * p + 4 + 2 ≡ 8 * p + 6 = omega arith in
      let word : u64_at l (8 * p) ≡ to_word (instruction_at l p) =
      rw (u64_halves l (8 * p) (omega arith), u32_halves l (8 * p) (omega arith), u32_halves l (8 * p + 4) (omega arith), u16_bytes l (8 * p) (omega arith), last) (omega arith) in
      ap (to_le 8) (sym word) ∙ number_same 8 (8 * p) h

  pub metadata_same : (k : ℕ) → 16 * k + 16 ≤ length l → metadata_bytes (metadata_at l k) ≡ mid_of (16 * k) 16 l
  unfolding metadata_at
  metadata_same k h =
      let f = metadata_fields l k b in
      let word : get_or l (16 * k) 0 + 256 * get_or l (16 * k + 1) 0 + 65536 * u16_at l (16 * k + 2) ≡ u32_at l (16 * k) =
      rw (u32_halves l (16 * k) (omega arith), u16_bytes l (16 * k) (omega arith)) in
      metadata_words (metadata_at l k) f.kind_fits f.ok_fits f.array_fits
      ∙ rw (
        word,
        number_same 4 (16 * k) (omega arith),
        number_same 4 (16 * k + 4) (omega arith),
        number_same 4 (16 * k + 8) (omega arith),
        number_same 4 (16 * k + 12) (omega arith),
        mid_add l (16 * k) 12 4,
        mid_add l (16 * k) 8 4,
        mid_add l (16 * k) 4 4,
      )

  pub line_same : (k : ℕ) → 8 * k + 8 ≤ length l → line_bytes (line_at l k) ≡ mid_of (8 * k) 8 l
  unfolding line_at line_bytes
  line_same k h = rw (number_same 4 (8 * k) (omega arith), number_same 4 (8 * k + 4) (omega arith), mid_add l (8 * k) 4 4)

-- a section is its entries' bytes
module _ {A : Type 0} (bytes : A → List ℕ) (size : ℕ) (read : ℕ → A) (l : List ℕ) where
  entries_from : (p k : ℕ) → ((j : ℕ) → j < p + k → bytes (read j) ≡ mid_of (size * j) size l) → bytes_of bytes (tabulate_from p k read) ≡ mid_of (size * p) (size * k) l
  unfolding bytes_of tabulate_from
  entries_from p zero f = rw (mul-zero size)
  entries_from p (suc k) f =
      let next : size * suc p ≡ size * p + size = rw mul-suc (omega arith) in
      let more : size * suc k ≡ size + size * k = rw mul-suc (omega arith) in
      rw (f p (omega arith), entries_from (suc p) k (λ j h. f j (omega arith)), next, more) (sym (mid_add l (size * p) size (size * k)))

  pub entries_same : (n : ℕ) → length l ≡ size * n → ((j : ℕ) → j < n → bytes (read j) ≡ mid_of (size * j) size l) → bytes_of bytes (tabulate n read) ≡ l
  unfolding tabulate
  entries_same n e f =
      entries_from 0 n (λ j h. f j (omega arith)) ∙ ap (λ (i : ℕ). mid_of i (size * n) l) (mul-zero size) ∙ take_all (size * n) l (omega arith)

-- ---- the unit

module _ (u : List ℕ) (b : Bytes u) (laid : is_unit u ≡ true) (described : (header_of u).counts.metadata ≡ (header_of u).counts.instructions) where
  w : WellFormed u
  w = unit_laid u laid

  lines_many : length (lines_in (lines_of u)) ≡ (header_of u).counts.lines
  lines_many = let long = w.lengths.lines in length_tabulate (length (lines_of u) / line_size) (line_at (lines_of u)) ∙ omega arith

  words_same : header_words (header_with (header_of u).counts (length (cells_of u)) (length (lines_in (lines_of u)))) ≡ header_words (header_of u)
  unfolding header_words counts_with offsets_of
  words_same =
      let s = w.sections in
      rw (cells_long u, lines_many, s.lines, s.cases, s.externs, s.functions, s.constants, s.types, s.metadata, s.code, described)

  words_read : header_words (header_of u) ≡ tabulate_from 0 18 (λ q. u32_at u (4 * q))
  unfolding header_of header_words tabulate_from
  words_read = refl

  header_same : header_bytes (header_with (header_of u).counts (length (cells_of u)) (length (lines_in (lines_of u)))) ≡ mid_of 0 header_size u
  header_same =
      ap (bytes_of (to_le 4)) (words_same ∙ words_read)
      ∙ entries_from (to_le 4) 4 (λ q. u32_at u (4 * q)) u 0 18 (λ q h. number_same u b 4 (4 * q) (let room = w.header in omega arith))

  code_same : bytes_of cell_code (cells_of u) ≡ code_of u
  unfolding cells_of
  code_same =
      let long = w.lengths.code in
      entries_same cell_code 8 _ (code_of u) (header_of u).counts.instructions long
      (λ p h. instruction_same (code_of u) (bytes_mid (header_of u).offsets.code (instruction_size * (header_of u).counts.instructions) u b) p (omega arith))

  metadata_again : bytes_of cell_metadata (cells_of u) ≡ metadata_of u
  unfolding cells_of
  metadata_again =
      let long = w.lengths.metadata in
      entries_same cell_metadata 16 _ (metadata_of u) (header_of u).counts.instructions (rw (← described) long)
      (λ p h. metadata_same (metadata_of u) (bytes_mid (header_of u).offsets.metadata (metadata_size * (header_of u).counts.metadata) u b) p (omega arith))

  lines_again : bytes_of line_bytes (lines_in (lines_of u)) ≡ lines_of u
  lines_again =
      let long = w.lengths.lines in
      entries_same line_bytes 8 (line_at (lines_of u)) (lines_of u) (length (lines_of u) / line_size) (omega arith)
      (λ k h. line_same (lines_of u) (bytes_mid (header_of u).offsets.lines (line_size * (header_of u).counts.lines) u b) k (omega arith))

  -- a section more
  joined : (a : List ℕ) (i j k : ℕ) → a ≡ mid_of 0 i u → j ≡ i → a ++ mid_of j k u ≡ mid_of 0 (j + k) u
  joined a i j k e f = rw (e, f) (ap (λ (n : ℕ). mid_of 0 i u ++ mid_of n k u) (sym (zero-add i)) ∙ sym (mid_add u 0 i k))

  whole : mid_of 0 header_size u ++ code_of u ++ metadata_of u ++ types_of u ++ constants_of u ++ functions_of u ++ externs_of u ++ cases_of u ++ lines_of u ≡ u
  whole =
      let s = w.sections in
      let code = joined _ _ _ _ refl s.code in
      let metadata = joined _ _ _ _ code s.metadata in
      let types = joined _ _ _ _ metadata s.types in
      let constants = joined _ _ _ _ types s.constants in
      let functions = joined _ _ _ _ constants s.functions in
      let externs = joined _ _ _ _ functions s.externs in
      let cases = joined _ _ _ _ externs s.cases in
      let lines = joined _ _ _ _ cases s.lines in
      lines ∙ take_all ((header_of u).offsets.lines + line_size * (header_of u).counts.lines) u (omega (arith, s.end))

  pub again_same : unit_of u (cells_of u) (lines_in (lines_of u)) ≡ u
  unfolding unit_of
  again_same = rw (header_same, code_same, metadata_again, lines_again) whole
