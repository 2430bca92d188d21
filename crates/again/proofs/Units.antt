-- What one pass or the cleaning rewrites, laid out as a unit again, is a unit of bytes, and its function is the one returned.
-- Assumes nothing.
use Rattle.std.specs.Prelude.{Ok, Err, Result, ◌≡◌, refl, Bool, true, false, ◌&&◌, List, ℕ, ◌+◌, ◌*◌, ◌/◌, ◌^◌, ◌≤◌, ◌<◌, ltb, length}
use Rattle.std.proofs.Common.{arith, ltb-true, ltb-false}
use Rattle.std.proofs.lemmas.List.{length-map}
use Rattle.words.specs.Bytes.{Bytes}
use Rattle.words.specs.laws.Bytes.{bytes_mid, le_fits}
use Rattle.words.specs.laws.Lists.{length_tabulate, get_d_tabulate}
use Rattle.unit.specs.Refusal.{Refused}
use Rattle.unit.specs.Entry.{metadata_at, good_metadata, is_wide_select, line_at, lines_in}
use Rattle.unit.specs.Layout.{header_of, wide_select, metadata_of, lines_of, layout_of}
use Rattle.unit.specs.Refusal.{too_many_cases}
use Rattle.unit.specs.Result.{Retained}
use Rattle.unit.specs.Size.{line_size}
use Rattle.unit.specs.laws.UnitLaws.{WellFormed, too_many_cases_lem}
use Rattle.unit.proofs.laws.UnitLaws.{unit_laid}
use Rattle.unit.specs.declared.Line.{Line}
use Rattle.effects.specs.Shape.{cell_at}
use Rattle.lines.specs.Lines.{below, moved_lines, places_of}
use Rattle.lines.specs.laws.Below.{below_mono}
use Rattle.lines.specs.laws.Moving.{RisingLines, line_in, no_line}
use Rattle.lines.specs.laws.Rising.{unit_lines}
use Rattle.answer.specs.Pass.{Outcome, unchanged, refused, rewritten, lines_after}
use Rattle.answer.specs.Answer.{Lent, cells_of, sections_of, room_for, laid_out, admission, after_admission, answer_with, pass_answer, pass_lines}
use Rattle.answer.specs.Clean.{retained_cell, cells_after, cleaned_first, spare_for, clean_answer, clean_lines}
use Rattle.run.proofs.Given.{lines_fit, Returnable, cell_at_lem, cells_long, worked_well, answer_optimized, answer_worked}
use Rattle.run.specs.Given.{Worked}
use Rattle.run.proofs.Given.{answer_returnable, clean_kept, clean_lines_lem}
use Rattle.run.specs.Returned.{given_function}
use Rattle.run.proofs.laws.MovedLines.{places_long}
use Rattle.again.specs.Again.{counts_with, offsets_of}
use Rattle.again.specs.laws.Bytes.{again_bytes}
use Rattle.again.specs.laws.Function.{AllFields}
use Rattle.again.proofs.laws.Function.{all_fit, retained_at_lem, again_function}
use Rattle.again.proofs.laws.Laid.{Small}
use Rattle.again.specs.laws.Lines.{moved_few, moved_each, moved_rising}
use Rattle.again.specs.laws.Narrow.{Narrow, pass_narrow, clean_narrow}
use Rattle.again.proofs.laws.Unit.{Below, none_lowest, again_laid, again_lined}
use Rattle.again.specs.Units.{UnitAgain}

-- ---- what a rewritten unit is

-- its layout was not refused
pub refused_none : (u : List ℕ) (room : Bool) (kept : List Retained) (k p : ℕ) → layout_of u ≡ Refused k p → answer_with room u ≡ rewritten kept → ⊥
unfolding answer_with admission laid_out after_admission
refused_none u room kept k p e f =
    let g : refused k p ≡ rewritten kept = rw e at f in
    let z : ◌≡◌ {A = ℕ} 0 1 = cc in
    omega arith

answer_narrow : (u : List ℕ) (room : Bool) (kept : List Retained) → answer_with room u ≡ rewritten kept → Narrow (cells_of u)
unfolding wide_select
answer_narrow u room kept e p h =
    let w = answer_worked u room kept e in
    let l : p < (header_of u).counts.instructions = rw (cells_long u) at h in
    rw (cell_at_lem u p l) (none_lowest (header_of u).counts.metadata (λ k. is_wide_select (metadata_at (metadata_of u) k)) (go (ltb (wide_select u) (header_of u).counts.metadata) refl w) p (rw w.described l))
  where
    go : (t : Bool) → ltb (wide_select u) (header_of u).counts.metadata ≡ t → Worked u room → (header_of u).counts.metadata ≤ wide_select u
    go true f w = absurd (refused_none u room kept too_many_cases (wide_select u) (too_many_cases_lem u w.laid w.rise (ltb-true (wide_select u) (header_of u).counts.metadata f)) e)
    go false f w = ltb-false (wide_select u) (header_of u).counts.metadata f

-- the numbers of a result's header are no greater than the unit's, and those are words of 32 bits
last_fits : (u : List ℕ) → Bytes u → (header_of u).offsets.lines < 2 ^ 32
unfolding header_of
last_fits u b = le_fits 4 u 68 b

pub small : (u : List ℕ) → Bytes u → WellFormed u → (header_of u).counts.metadata ≡ (header_of u).counts.instructions → (n l : ℕ) → n ≤ (header_of u).counts.instructions → l ≤ (header_of u).counts.lines
    → Small (header_of u).counts n l
unfolding counts_with offsets_of
small u b w described n l few fewer =
    let s = w.sections in
    let last = last_fits u b in
    let many = lines_fit u b in
    record { offset = omega (arith, s.code, s.metadata, s.types, s.constants, s.functions, s.externs, s.cases, s.lines); lines = omega arith }

-- the lines of a unit of bytes
given_line : (u : List ℕ) → Bytes u → (i : ℕ) → i < length (lines_in (lines_of u)) → (line_in (lines_in (lines_of u)) i).line < 2 ^ 32
unfolding line_at
given_line u b i h =
    let l : i < length (lines_of u) / line_size = rw (length_tabulate (length (lines_of u) / line_size) (line_at (lines_of u))) at h in
    rw (get_d_tabulate (length (lines_of u) / line_size) (line_at (lines_of u)) i no_line l)
    (le_fits 4 (lines_of u) (line_size * i + 4) (bytes_mid (header_of u).offsets.lines (line_size * (header_of u).counts.lines) u b))

-- ---- what is returned

module _ (u : List ℕ) (b : Bytes u) (room : Bool) (w : Worked u room) (kept : List Retained) (r : Returnable (given_function u) (header_of u).counts.cases kept) where
  abbrev given : List Line
  given = lines_in (lines_of u)

  abbrev lines : List Line
  lines = moved_lines (places_of kept) given

  laid : WellFormed u
  laid = unit_laid u w.laid

  pub fewer : length lines ≤ (header_of u).counts.lines
  fewer =
      let most = moved_few (below (places_of kept)) (length (places_of kept)) given in
      let long : length given ≡ length (lines_of u) / line_size = length_tabulate (length (lines_of u) / line_size) (line_at (lines_of u)) in
      let bytes = laid.lengths.lines in
      omega arith

  fits : Small (header_of u).counts (length kept) (length lines)
  unfolding given_function
  fits = small u b laid w.described (length kept) (length lines) (rw (cells_long u) at r.shorter) fewer

  pub lines_below : (k : ℕ) → k < length lines → Below (length kept) (line_in lines k)
  lines_below =
      moved_each (below (places_of kept)) (length (places_of kept)) (Below (length kept)) given
      (λ i h inside. record { place = rw (places_long kept) at inside; line = given_line u b i h })

  returned : Narrow (cells_after kept) → UnitAgain u kept (moved_lines (places_of kept) (lines_in (lines_of u)))
  returned narrow =
      let long : length (cells_after kept) ≡ length kept = length-map kept retained_cell in
      let good : (p : ℕ) → p < length (cells_after kept) → good_metadata (header_of u).counts.cases (cell_at (cells_after kept) p).metadata ≡ true =
      λ p h. rw (retained_at_lem kept p) (r.fits p (rw long at h)).metadata.good in
      let rise : RisingLines lines = moved_rising (below (places_of kept)) (length (places_of kept)) (below_mono (places_of kept)) given (unit_lines u w.laid w.rise) in
      let fields : AllFields (cells_after kept) = all_fit (header_of u).counts.cases kept r.fits in
      record {
        bytes = again_bytes u (cells_after kept) lines b fields;
        unit = rw long at (again_laid laid (cells_after kept) lines (rw long fits) fields good narrow rise (rw long lines_below));
        function = again_function laid (header_of u).counts.cases kept lines r.fits fits;
        lined = again_lined laid (cells_after kept) lines (rw long fits) (rw long lines_below);
      }

-- What one pass rewrites is a unit again.
pub pass_unit : (u : List ℕ) (l : Lent) (kept : List Retained) → Bytes u → pass_answer u l ≡ rewritten kept → UnitAgain u kept (pass_lines u l)
unfolding pass_answer given_function lines_after
pass_unit u l kept b e =
    let room = room_for (header_of u).counts l in
    let o = answer_optimized u room kept e in
    let narrow = pass_narrow (given_function u) (worked_well b o.0) o.0.worked kept o.1 (answer_narrow u room kept e) in
    rw e (returned u b room o.0 kept (answer_returnable u b room kept e) narrow)

-- So is what cleaning rewrites.
pub clean_unit : (u : List ℕ) (l : Lent) (first second : ℕ) (kept : List Retained) → Bytes u → (clean_answer u l first second).outcome ≡ rewritten kept → UnitAgain u kept (clean_lines u l first second)
unfolding clean_answer cleaned_first given_function
clean_unit u l first second kept b e =
    let k = clean_kept u b l first second kept e in
    rw (clean_lines_lem u b l first second kept e) (returned u b room k.0 kept k.1 (go (answer_with room u) refl e))
  where
    room : Bool
    room = room_for (header_of u).counts l && spare_for (header_of u).counts first second

    go : (o : Outcome) → answer_with room u ≡ o → (cleaned_first (sections_of u) o).outcome ≡ rewritten kept → Narrow (cells_after kept)
    go unchanged f e = let z : ◌≡◌ {A = ℕ} 0 1 = cc in absurd (omega arith)
    go (refused k p) f e = let z : ◌≡◌ {A = ℕ} 0 1 = cc in absurd (omega arith)
    go (rewritten one) f e =
        let o = answer_optimized u room one f in
        let narrow = pass_narrow (given_function u) (worked_well b o.0) o.0.worked one o.1 (answer_narrow u room one f) in
        clean_narrow (given_function u) (header_of u).counts.cases 2 1 one kept (answer_returnable u b room one f) narrow e
