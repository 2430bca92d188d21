-- A unit again is a unit: its sections follow, its entries are good, no select has too many cases, and its lines rise.
-- Assumes nothing.
use Rattle.std.specs.Prelude.{Ok, Err, Result, ◌≡◌, Bool, cond, eqb, take, drop}
use Rattle.std.proofs.Math.Path.{refl, ap}
use Rattle.std.proofs.Common.{sym, ◌∙◌, add-zero, ext_get_or}
use Rattle.std.proofs.Math.Bool.{true, false}
use mathlib.Core.List.{List, ◌++◌}
use Prim.Native.Nat.{ℕ, zero, suc, ◌+◌, ◌*◌, ◌/◌, ◌^◌, ◌≤◌, ◌<◌}
use native.Mathlib.Omega.{arith}
use Rattle.std.proofs.Math.Dec.{ltb}
use Rattle.std.proofs.Math.ListN.{length}
use borrow.Author.Tests.{eq-eqb, eqb-true, eqb-false, le-leb, lt-ltb, ltb-true}
use borrow.Rule.Slice.PartMut.{mid_of}
use Rattle.words.specs.Le.{to_le}
use Rattle.words.specs.laws.Le.{from_to}
use Rattle.words.specs.laws.Inside.{mid_inside}
use Rattle.words.specs.Lists.{every, lowest_below}
use Rattle.words.specs.laws.Lists.{every_all, length_tabulate, get_d_tabulate}
use Rattle.unit.specs.Entry.{metadata_at, good_metadata, is_wide_select, type_at, good_type, good_constant, case_at, good_case, line_at, line_bytes, good_line, lines_in}
use Rattle.unit.specs.Layout.{header_of, sections_follow, good_counts, good_entries, has_sections, wide_select, lines_rise, layout_of, metadata_of, types_of, constants_of, cases_of, lines_of}
use Rattle.unit.specs.Size.{header_size, line_size, max_local_slots}
use Rattle.unit.specs.laws.UnitLaws.{WellFormed, by_entries, laid_out_lem}
use Rattle.unit.specs.declared.Counts.{Counts}
use Rattle.unit.specs.declared.Header.{Header}
use Rattle.unit.specs.declared.Line.{Line}
use Rattle.effects.specs.Shape.{Cell, cell_at}
use Rattle.lines.specs.laws.Moving.{RisingLines, line_in, no_line}
use Rattle.again.specs.Again.{counts_with, offsets_of, header_with, bytes_of, unit_of}
use Rattle.again.specs.laws.Entries.{around, ahead_long}
use Rattle.again.specs.laws.Laid.{size_with}
use Rattle.again.proofs.laws.Laid.{Small, line_long, lines_long, again_header, again_long, again_metadata, again_types, again_constants, again_cases, again_lines}
use Rattle.again.specs.laws.Function.{AllFields}
use Rattle.again.proofs.laws.Function.{metadata_back, again_many, again_described}
use Rattle.again.specs.laws.Narrow.{Narrow}

-- ---- the header

pub same : (n : ℕ) → eqb n n ≡ true
same n = eq-eqb n n refl

follow : (c : Counts) → sections_follow (record { counts = c; offsets = offsets_of c }) ((offsets_of c).lines + line_size * c.lines) ≡ true
unfolding sections_follow offsets_of
follow c = simp same

-- ---- the lines

-- an entry below n whose line fits its width
pub record Below (n : ℕ) (e : Line) : Type 0 where
  pub place : e.place < n
  pub line : e.line < 2 ^ 32

-- only the eight bytes of a place count
line_at_place : (a xs b : List ℕ) (k : ℕ) → length a ≡ line_size * k → length xs ≡ line_size → line_at (a ++ xs ++ b) k ≡ line_at xs 0
unfolding line_at
line_at_place a xs b k long eight =
    rw (
      ← long,
      ap (λ (n : ℕ). mid_of n 4 (a ++ xs ++ b)) (sym (add-zero (length a))) ∙ mid_inside a xs b 0 4 (omega arith),
      mid_inside a xs b 4 4 (omega arith),
    )

line_read_back : (e : Line) → e.place < 2 ^ 32 → e.line < 2 ^ 32 → line_at (line_bytes e) 0 ≡ e
unfolding line_at line_bytes to_le
line_read_back e place line = rw (from_to 4 e.place place, from_to 4 e.line line)

module _ (n : ℕ) (lines : List Line) (few : n < 2 ^ 32) (below : (k : ℕ) → k < length lines → Below n (line_in lines k)) where
  pub line_back : (k : ℕ) → k < length lines → line_at (bytes_of line_bytes lines) k ≡ line_in lines k
  line_back k h =
      let inside = (below k h).place in
      ap (λ (l : List ℕ). line_at l k) (around line_bytes lines k no_line h)
      ∙ line_at_place (bytes_of line_bytes (take k lines)) (line_bytes (line_in lines k)) (bytes_of line_bytes (drop (suc k) lines)) k (ahead_long line_bytes 8 line_long lines k h) (line_long (line_in lines k))
      ∙ line_read_back (line_in lines k) (omega arith) (below k h).line

  good_line_lem : RisingLines lines → (k : ℕ) → k < length lines → good_line n (bytes_of line_bytes lines) k ≡ true
  unfolding good_line
  good_line_lem rise k h =
      let many : length (bytes_of line_bytes lines) / line_size ≡ length lines = let long = lines_long lines in omega arith in
      rw (many, line_back k h) (go (ltb (suc k) (length lines)) refl)
    where
      go : (t : Bool) → ltb (suc k) (length lines) ≡ t → ltb (line_in lines k).place (cond t (line_at (bytes_of line_bytes lines) (suc k)).place n) ≡ true
      go true e =
          let next : suc k < length lines = ltb-true (suc k) (length lines) e in
          rw (line_back (suc k) next) (lt-ltb (line_in lines k).place (line_in lines (suc k)).place (rise k (suc k) (omega arith) next))
      go false e = lt-ltb (line_in lines k).place n (below k h).place

  pub lines_back : lines_in (bytes_of line_bytes lines) ≡ lines
  lines_back =
      let count : ℕ = length (bytes_of line_bytes lines) / line_size in
      let long : length (lines_in (bytes_of line_bytes lines)) ≡ length lines = let bytes = lines_long lines in length_tabulate count (line_at (bytes_of line_bytes lines)) ∙ omega arith in
      ext_get_or no_line (lines_in (bytes_of line_bytes lines)) lines long
      (λ k h. get_d_tabulate count (line_at (bytes_of line_bytes lines)) k no_line (rw (length_tabulate count (line_at (bytes_of line_bytes lines))) at h) ∙ line_back k (rw long at h))

-- ---- the lowest number that passes

lowest_none : (n : ℕ) (t : ℕ → Bool) → ((k : ℕ) → k < n → t k ≡ false) → lowest_below n t ≡ n
unfolding lowest_below
lowest_none zero t f = refl
lowest_none (suc n) t f = rw (lowest_none n t (λ k h. f k (omega arith)), same n, f n (omega arith))

lowest_most : (n : ℕ) (t : ℕ → Bool) → lowest_below n t ≤ n
unfolding lowest_below
lowest_most zero t = omega arith
lowest_most (suc n) t = go (eqb (lowest_below n t) n) (t n) (lowest_most n t)
  where
    go : (s r : Bool) → lowest_below n t ≤ n → cond s (cond r n (suc n)) (lowest_below n t) ≤ suc n
    go true true h = omega arith
    go true false h = omega arith
    go false r h = omega arith

-- where none is found, none passes
pub none_lowest : (n : ℕ) (t : ℕ → Bool) → n ≤ lowest_below n t → (k : ℕ) → k < n → t k ≡ false
unfolding lowest_below
none_lowest zero t e k h = absurd (omega arith)
none_lowest (suc n) t e k h = go (eqb (lowest_below n t) n) refl (t n) refl e (none_lowest n t)
  where
    go : (s : Bool) → eqb (lowest_below n t) n ≡ s → (r : Bool) → t n ≡ r → suc n ≤ cond s (cond r n (suc n)) (lowest_below n t)
        → (n ≤ lowest_below n t → (k : ℕ) → k < n → t k ≡ false) → t k ≡ false
    go true f true g e ih = absurd (omega arith)
    go true f false g e ih = at (eqb k n) refl
      where
        at : (s : Bool) → eqb k n ≡ s → t k ≡ false
        at true q = rw (eqb-true k n q) g
        at false q =
            let other : k ≡ n → ⊥ = eqb-false k n q in
            let all : lowest_below n t ≡ n = eqb-true (lowest_below n t) n f in
            ih (omega arith) k (omega arith)
    go false f r g e ih = let most = lowest_most n t in absurd (omega arith)

-- ---- the unit

module _ {u : List ℕ} (w : WellFormed u) (cells : List Cell) (lines : List Line) (small : Small (header_of u).counts (length cells) (length lines)) where
  abbrev v : List ℕ
  v = unit_of u cells lines

  abbrev h : Header
  h = header_with (header_of u).counts (length cells) (length lines)

  again_sections_follow : has_sections (unit_of u cells lines) ≡ true
  unfolding has_sections counts_with good_counts offsets_of
  again_sections_follow =
      let long : length v ≡ size_with (header_of u).counts (length cells) (length lines) = again_long w cells lines in
      let sections : sections_follow (header_of v) (length v) ≡ true =
      ap (λ (x : Header). sections_follow x (length v)) (again_header w cells lines small) ∙ ap (sections_follow h) long ∙ follow (counts_with (header_of u).counts (length cells) (length lines)) in
      let counts : good_counts (header_of v) ≡ true = ap good_counts (again_header w cells lines small) ∙ rw (le-leb (header_of u).counts.locals max_local_slots w.locals, le-leb (header_of u).counts.defer 1 w.defer) in
      rw (le-leb header_size (length v) (rw long (omega arith)), sections, counts)

  -- what holds of each entry of a section of u holds of each of the same section
  same_entries : (f : Header → ℕ) (t s : ℕ → Bool) → f h ≡ f (header_of u) → ((k : ℕ) → t k ≡ s k) → ((k : ℕ) → k < f (header_of u) → s k ≡ true) → every (f (header_of v)) t ≡ true
  same_entries f t s e g all =
      every_all (f (header_of v)) t (λ k l. let inside : k < f (header_of u) = rw (ap f (again_header w cells lines small) ∙ e) at l in g k ∙ all k inside)

  module _ (fields : AllFields cells) where
    metadata_at_lem : (k : ℕ) → k < length cells → metadata_at (metadata_of (unit_of u cells lines)) k ≡ (cell_at cells k).metadata
    metadata_at_lem k l = ap (λ (b : List ℕ). metadata_at b k) (again_metadata w cells lines small) ∙ metadata_back cells fields k l

    again_entries : ((k : ℕ) → k < length cells → good_metadata (header_of u).counts.cases (cell_at cells k).metadata ≡ true) → good_entries (unit_of u cells lines) ≡ true
    unfolding good_entries counts_with
    again_entries good =
        let count : (header_of v).counts.cases ≡ (header_of u).counts.cases = ap (λ (x : Header). x.counts.cases) (again_header w cells lines small) in
        let metadata : every (header_of v).counts.metadata (λ k. good_metadata (header_of v).counts.cases (metadata_at (metadata_of v) k)) ≡ true =
        every_all (header_of v).counts.metadata (λ k. good_metadata (header_of v).counts.cases (metadata_at (metadata_of v) k))
        (λ k l. let inside : k < length cells = rw (again_described w cells lines small) at l in rw (count, metadata_at_lem k inside) (good k inside)) in
        let types : every (header_of v).counts.types (λ k. good_type (type_at (types_of v) k)) ≡ true =
        same_entries (λ x. x.counts.types) (λ k. good_type (type_at (types_of v) k)) (λ k. good_type (type_at (types_of u) k)) refl (λ k. ap (λ (b : List ℕ). good_type (type_at b k)) (again_types w cells lines small)) w.entries.types in
        let constants : every (header_of v).counts.constants (λ k. good_constant (constants_of v) k) ≡ true =
        same_entries (λ x. x.counts.constants) (λ k. good_constant (constants_of v) k) (λ k. good_constant (constants_of u) k) refl (λ k. ap (λ (b : List ℕ). good_constant b k) (again_constants w cells lines small)) w.entries.constants in
        let cases : every (header_of v).counts.cases (λ k. good_case (case_at (cases_of v) k)) ≡ true =
        same_entries (λ x. x.counts.cases) (λ k. good_case (case_at (cases_of v) k)) (λ k. good_case (case_at (cases_of u) k)) refl (λ k. ap (λ (b : List ℕ). good_case (case_at b k)) (again_cases w cells lines small)) w.entries.cases in
        rw (metadata, types, constants, cases)

    again_wide : Narrow cells → wide_select (unit_of u cells lines) ≡ (header_of (unit_of u cells lines)).counts.metadata
    unfolding wide_select
    again_wide narrow =
        lowest_none (header_of v).counts.metadata (λ k. is_wide_select (metadata_at (metadata_of v) k))
        (λ k l. let inside : k < length cells = rw (again_described w cells lines small) at l in rw (metadata_at_lem k inside) (narrow k inside))

  again_rise : RisingLines lines → ((k : ℕ) → k < length lines → Below (length cells) (line_in lines k)) → lines_rise (unit_of u cells lines) ≡ true
  unfolding lines_rise counts_with offsets_of
  again_rise rise below =
      let last = small.offset in
      every_all (header_of v).counts.lines (λ k. good_line (header_of v).counts.instructions (lines_of v) k)
      (λ k l.
      let inside : k < length lines = rw (ap (λ (x : Header). x.counts.lines) (again_header w cells lines small)) at l in
      rw (again_many w cells lines small, again_lines w cells lines small) (good_line_lem (length cells) lines (omega arith) below rise k inside))

  pub again_lined : ((k : ℕ) → k < length lines → Below (length cells) (line_in lines k)) → lines_in (lines_of (unit_of u cells lines)) ≡ lines
  unfolding counts_with offsets_of
  again_lined below =
      let last = small.offset in
      ap lines_in (again_lines w cells lines small) ∙ lines_back (length cells) lines (omega arith) below

  pub again_laid : AllFields cells → ((k : ℕ) → k < length cells → good_metadata (header_of u).counts.cases (cell_at cells k).metadata ≡ true) → Narrow cells → RisingLines lines
      → ((k : ℕ) → k < length lines → Below (length cells) (line_in lines k)) → layout_of (unit_of u cells lines) ≡ Ok (header_with (header_of u).counts (length cells) (length lines))
  again_laid fields good narrow rise below =
      let wide : wide_select v ≡ (header_of v).counts.metadata = again_wide fields narrow in
      laid_out_lem v (by_entries v true again_sections_follow (again_entries fields good)) (again_rise rise below) (rw wide (omega arith))
      ∙ ap Ok (again_header w cells lines small)
