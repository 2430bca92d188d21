-- What one pass or the cleaning rewrites, at the front of a buffer, is laid out as the very unit again that `UnitAgain` speaks of.
-- Assumes nothing.
use Rattle.std.specs.Prelude.{Option, Some, None, Ok, Err, Result, ◌≡◌, Bool, ◌&&◌, get_or}
use Rattle.std.proofs.Math.Path.{refl, sym, ap}
use Rattle.std.proofs.Common.{◌∙◌, zero-add, arith}
use mathlib.Core.List.{List, [], ◌∷◌, ◌++◌, append_assoc, append-nil}
use Prim.Native.Nat.{ℕ, ◌+◌, ◌*◌, ◌^◌, ◌≤◌, ◌<◌}
use Rattle.std.proofs.Math.ListN.{length, length-append}
use borrow.Author.Tests.{le-leb}
use borrow.Rule.Slice.PartMut.{mid_of}
use Rattle.words.specs.Bytes.{Bytes}
use Rattle.words.specs.Le.{from_le, to_le, u32_at}
use Rattle.words.specs.laws.Inside.{mid_inside}
use Rattle.words.specs.laws.Le.{length_to_le, from_to}
use Rattle.unit.specs.Refusal.{Refused}
use Rattle.unit.specs.Entry.{line_bytes, lines_in}
use Rattle.unit.specs.Layout.{header_of, layout_of, lines_of}
use Rattle.unit.specs.Result.{Retained, read_result, result_header, code_bytes, metadata_bytes_all, place_bytes, line_bytes_all, result_bytes, result_metadata_at, result_places_at, result_lines_at}
use Rattle.unit.specs.Size.{line_size, result_header_size, result_size}
use Rattle.unit.specs.laws.UnitLaws.{layout_unit, result_long, result_header_long, code_bytes_long, metadata_bytes_all_long, place_bytes_long, line_bytes_all_long}
use Rattle.unit.specs.declared.Header.{Header}
use Rattle.unit.specs.declared.refusal.Refusal.{Refusal}
use Rattle.unit.specs.declared.Line.{Line}
use Rattle.lines.specs.Lines.{moved_lines, places_of}
use Rattle.answer.specs.Pass.{refused, rewritten, lines_after}
use Rattle.answer.specs.Answer.{Lent, room_for, laid_out, admission, after_admission, answer_with, pass_answer, pass_lines}
use Rattle.answer.specs.Clean.{cells_after, cleaned_first, spare_for, clean_answer, clean_lines}
use Rattle.run.proofs.Given.{lines_fit, Returnable, cells_long, answer_worked}
use Rattle.run.specs.Given.{Worked}
use Rattle.run.proofs.Given.{answer_returnable, clean_kept, clean_lines_lem}
use Rattle.run.specs.Returned.{given_function}
use Rattle.run.specs.laws.Reading.{middle, result_back}
use Rattle.again.specs.Again.{bytes_of, unit_of}
use Rattle.again.specs.LaidOut.{read_lines, laid_unit, room_answer, result_answer, unit_answer, laid_answer, output_by, output_laid}
use Rattle.again.proofs.Units.{refused_none, fewer, lines_below}
use Rattle.again.specs.laws.Entries.{entry_mid}
use Rattle.again.specs.laws.Found.{ResultOf}
use Rattle.again.proofs.laws.Found.{of_result}
use Rattle.again.specs.laws.Result.{result_lines}
use Rattle.again.proofs.laws.Unit.{lines_back}
use Rattle.again.specs.Laying.{LaidAgain}

-- ---- the words of a result's header

abbrev result_words : ℕ → ℕ → List ℕ
result_words k l = k ∷ result_header_size ∷ result_metadata_at k ∷ result_places_at k ∷ l ∷ result_lines_at k ∷ []

header_words_lem : (k l : ℕ) → result_header k l ≡ bytes_of (to_le 4) (result_words k l)
unfolding result_header bytes_of
header_words_lem k l = simp (append_assoc, append-nil)

module _ (kept : List Retained) (lines : List Line) (rest : List ℕ) where
  abbrev k : ℕ
  k = length kept

  abbrev l : ℕ
  l = length lines

  abbrev b : List ℕ
  b = result_bytes kept lines ++ rest

  word_at : (q : ℕ) → q < 6 → get_or (result_words k l) q 0 < 2 ^ 32 → u32_at b (4 * q) ≡ get_or (result_words k l) q 0
  unfolding result_bytes
  word_at q h fits =
      let tail : List ℕ = code_bytes kept ++ metadata_bytes_all kept ++ place_bytes kept ++ line_bytes_all lines ++ rest in
      let split : b ≡ [] ++ result_header k l ++ tail = simp append_assoc in
      let long = result_header_long k l in
      ap from_le
      (ap (mid_of (4 * q) 4) split
      ∙ ap (λ (i : ℕ). mid_of i 4 ([] ++ result_header k l ++ tail)) (sym (zero-add (4 * q)))
      ∙ mid_inside [] (result_header k l) tail (4 * q) 4 (omega arith)
      ∙ ap (mid_of (4 * q) 4) (header_words_lem k l)
      ∙ entry_mid (to_le 4) 4 (length_to_le 4) (result_words k l) q 0 h)
      ∙ from_to 4 (get_or (result_words k l) q 0) fits

  lines_bytes : mid_of (result_lines_at k) (line_size * l) b ≡ bytes_of line_bytes lines
  unfolding result_bytes
  lines_bytes =
      let front : List ℕ = result_header k l ++ code_bytes kept ++ metadata_bytes_all kept ++ place_bytes kept in
      let split : b ≡ front ++ line_bytes_all lines ++ rest = refl in
      let long : length front ≡ result_lines_at k = simp (length-append, result_header_long, code_bytes_long, metadata_bytes_all_long, place_bytes_long) in
      ap (mid_of (result_lines_at k) (line_size * l)) split
      ∙ middle front (line_bytes_all lines) rest (result_lines_at k) (line_size * l) long (line_bytes_all_long lines)
      ∙ sym (result_lines lines)

-- ---- what is returned

module _ (u : List ℕ) (bytes : Bytes u) (laid : (k p : ℕ) → layout_of u ≡ Refused k p → ⊥) (room : Bool) (w : Worked u room) (kept : List Retained)
    (r : Returnable (given_function u) (header_of u).counts.cases kept) where
  abbrev moved : List Line
  moved = moved_lines (places_of kept) (lines_in (lines_of u))

  is_laid : layout_of u ≡ Ok (header_of u)
  is_laid = go (layout_of u) refl
    where
      go : (x : Result Header Refusal) → layout_of u ≡ x → layout_of u ≡ Ok (header_of u)
      go (Err r) e = absurd (laid r.number r.place e)
      go (Ok h) e = e ∙ ap Ok (layout_unit u h e).1

  module _ (rest : List ℕ) where
    abbrev buffer : List ℕ
    buffer = result_bytes kept moved ++ rest

    few_lines : length moved < 2 ^ 32
    few_lines = let many = lines_fit u bytes in let most = fewer u bytes room w kept r in omega arith

    many_read : u32_at buffer 0 ≡ length kept
    many_read = let few = r.few in word_at kept moved rest 0 (omega arith) (omega arith)

    lined_read : u32_at buffer 16 ≡ length moved
    lined_read = word_at kept moved rest 4 (omega arith) few_lines

    lines_at : u32_at buffer 20 ≡ result_lines_at (length kept)
    lines_at = let few = r.few in word_at kept moved rest 5 (omega arith) (omega arith)

    is_result : ResultOf (header_of u).counts buffer
    unfolding given_function
    is_result =
        let few = r.few in
        let shorter : length kept ≤ (header_of u).counts.instructions = rw (cells_long u) at r.shorter in
        let described = w.described in
        let long : length buffer ≡ result_size (length kept) (length moved) + length rest = length-append (result_bytes kept moved) rest ∙ rw (result_long kept moved) in
        record {
          header = omega (arith, long);
          code = word_at kept moved rest 1 (omega arith) (omega arith);
          metadata = rw many_read (word_at kept moved rest 2 (omega arith) (omega arith));
          places = rw many_read (word_at kept moved rest 3 (omega arith) (omega arith));
          lines = rw many_read lines_at;
          whole = rw (many_read, lined_read) (omega (arith, long));
          instructions = rw many_read shorter;
          described = rw many_read (omega arith);
          lined = rw lined_read (fewer u bytes room w kept r);
        }

    read_back : read_result buffer ≡ kept
    read_back = result_back (header_of u).counts.cases kept moved rest r.few r.fits

    lines_read : read_lines buffer ≡ moved
    unfolding read_lines
    lines_read =
        let few = r.few in
        rw (lines_at, lined_read)
        (ap lines_in (lines_bytes kept moved rest) ∙ lines_back (length kept) moved (omega arith) (lines_below u bytes room w kept r))

    same_unit : laid_unit u buffer ≡ unit_of u (cells_after kept) moved
    same_unit = rw (read_back, lines_read)

    answered : (size : ℕ) → length (unit_of u (cells_after kept) moved) ≤ size → laid_answer u buffer size ≡ Ok (Some (length (unit_of u (cells_after kept) moved)))
    unfolding laid_answer unit_answer result_answer room_answer
    answered size h = rw (is_laid, of_result (header_of u).counts buffer is_result, same_unit, le-leb (length (unit_of u (cells_after kept) moved)) size h)

  laid_again : LaidAgain u kept (moved_lines (places_of kept) (lines_in (lines_of u)))
  unfolding output_laid output_by
  laid_again = record { answer = answered; output = λ rest out h. rw (answered rest (length out) h, same_unit rest) }

-- What one pass rewrites is laid out again.
pub pass_laid : (u : List ℕ) (l : Lent) (kept : List Retained) → Bytes u → pass_answer u l ≡ rewritten kept → LaidAgain u kept (pass_lines u l)
unfolding pass_answer lines_after
pass_laid u l kept bytes e =
    let room = room_for (header_of u).counts l in
    rw e (laid_again u bytes (λ k p f. refused_none u room kept k p f e) room (answer_worked u room kept e) kept (answer_returnable u bytes room kept e))

-- So is what cleaning rewrites.
pub clean_laid : (u : List ℕ) (l : Lent) (first second : ℕ) (kept : List Retained) → Bytes u → (clean_answer u l first second).outcome ≡ rewritten kept → LaidAgain u kept (clean_lines u l first second)
unfolding clean_answer cleaned_first answer_with admission laid_out after_admission
clean_laid u l first second kept bytes e =
    let k = clean_kept u bytes l first second kept e in
    rw (clean_lines_lem u bytes l first second kept e) (laid_again u bytes none room k.0 kept k.1)
  where
    room : Bool
    room = room_for (header_of u).counts l && spare_for (header_of u).counts first second

    none : (k p : ℕ) → layout_of u ≡ Refused k p → ⊥
    none k p f =
        let g : refused k p ≡ rewritten kept = rw f at e in
        let z : ◌≡◌ {A = ℕ} 0 1 = cc in
        omega arith
