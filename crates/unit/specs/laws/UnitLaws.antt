-- What holds of every unit; what is written is read back; the length of a result.
-- Assumes nothing.
use Rattle.std.specs.Prelude.{Ok, ◌≡◌, refl, Bool, true, false, cond, List, [], ◌∷◌, ◌++◌, ℕ, ◌+◌, ◌*◌, ◌/◌, ◌%◌, ◌^◌, ◌≤◌, ◌<◌, leb, ltb, length, get_or}
use Rattle.std.proofs.Common.{sym, ap, ◌∙◌, add-zero, mul-zero, mul-suc, arith, length-append, leb-true, lt-ltb, le-ltb}
use Rattle.words.specs.laws.Inside.{get_inside, mid_inside}
use Rattle.words.specs.Le.{to_le}
use Rattle.words.specs.laws.Le.{from_to}
use Rattle.words.specs.laws.Lists.{every_at}
use Rattle.words.specs.laws.Regions.{mid_long}
use Rattle.words.specs.laws.Truth.{both}
use Rattle.unit.specs.Entry.{metadata_at, metadata_bytes, line_bytes, good_metadata, type_at, good_type, good_constant, case_at, good_case}
use Rattle.unit.specs.Layout.{header_of, sections_follow, good_counts, good_entries, has_sections, is_unit, lines_rise, wide_select, after_lines, after_unit, layout_of, code_of, metadata_of, types_of, constants_of, functions_of, externs_of, cases_of, lines_of}
use Rattle.unit.specs.Refusal.{not_unit, line_places, too_many_cases, Refused}
use Rattle.unit.specs.Result.{Retained, result_header, code_bytes, metadata_bytes_all, place_bytes, line_bytes_all, result_bytes}
use Rattle.unit.specs.Size.{header_size, instruction_size, metadata_size, constant_size, function_size, extern_size, case_size, line_size, max_local_slots, result_header_size, result_size}
use Rattle.unit.specs.declared.Header.{Header}
use Rattle.unit.specs.declared.Line.{Line}
use Rattle.unit.specs.declared.Metadata.{Metadata}

pub passed : (s t : Bool) → cond s t false ≡ true → (s ≡ true) × (t ≡ true)
passed true t e = (refl, e)
passed false t e = let z : ◌≡◌ {A = ℕ} 0 1 = cc in absurd (omega arith)

-- each section starts where the one before it ends, and the last one ends the unit
pub record Sections (h : Header) (size : ℕ) : Type 0 where
  pub code : h.offsets.code ≡ header_size
  pub metadata : h.offsets.metadata ≡ h.offsets.code + instruction_size * h.counts.instructions
  pub types : h.offsets.types ≡ h.offsets.metadata + metadata_size * h.counts.metadata
  pub constants : h.offsets.constants ≡ h.offsets.types + h.counts.types
  pub functions : h.offsets.functions ≡ h.offsets.constants + constant_size * h.counts.constants
  pub externs : h.offsets.externs ≡ h.offsets.functions + function_size * h.counts.functions
  pub cases : h.offsets.cases ≡ h.offsets.externs + extern_size * h.counts.externs
  pub lines : h.offsets.lines ≡ h.offsets.cases + case_size * h.counts.cases
  pub end : size ≡ h.offsets.lines + line_size * h.counts.lines

-- so each section lies within the unit
pub record Within (h : Header) (size : ℕ) : Type 0 where
  pub code : h.offsets.code + instruction_size * h.counts.instructions ≤ size
  pub metadata : h.offsets.metadata + metadata_size * h.counts.metadata ≤ size
  pub types : h.offsets.types + h.counts.types ≤ size
  pub constants : h.offsets.constants + constant_size * h.counts.constants ≤ size
  pub functions : h.offsets.functions + function_size * h.counts.functions ≤ size
  pub externs : h.offsets.externs + extern_size * h.counts.externs ≤ size
  pub cases : h.offsets.cases + case_size * h.counts.cases ≤ size
  pub lines : h.offsets.lines + line_size * h.counts.lines ≤ size

pub within : (h : Header) (size : ℕ) → Sections h size → Within h size
within h size s = record { code = omega arith; metadata = omega arith; types = omega arith; constants = omega arith; functions = omega arith; externs = omega arith; cases = omega arith; lines = omega arith }

-- and has as many entries as the header says
pub record Lengths (u : List ℕ) : Type 0 where
  pub code : length (code_of u) ≡ instruction_size * (header_of u).counts.instructions
  pub metadata : length (metadata_of u) ≡ metadata_size * (header_of u).counts.metadata
  pub types : length (types_of u) ≡ (header_of u).counts.types
  pub constants : length (constants_of u) ≡ constant_size * (header_of u).counts.constants
  pub functions : length (functions_of u) ≡ function_size * (header_of u).counts.functions
  pub externs : length (externs_of u) ≡ extern_size * (header_of u).counts.externs
  pub cases : length (cases_of u) ≡ case_size * (header_of u).counts.cases
  pub lines : length (lines_of u) ≡ line_size * (header_of u).counts.lines

pub lengths : (u : List ℕ) → Within (header_of u) (length u) → Lengths u
lengths u w =
    let h = header_of u in
    record {
      code = mid_long u h.offsets.code (instruction_size * h.counts.instructions) w.code;
      metadata = mid_long u h.offsets.metadata (metadata_size * h.counts.metadata) w.metadata;
      types = mid_long u h.offsets.types h.counts.types w.types;
      constants = mid_long u h.offsets.constants (constant_size * h.counts.constants) w.constants;
      functions = mid_long u h.offsets.functions (function_size * h.counts.functions) w.functions;
      externs = mid_long u h.offsets.externs (extern_size * h.counts.externs) w.externs;
      cases = mid_long u h.offsets.cases (case_size * h.counts.cases) w.cases;
      lines = mid_long u h.offsets.lines (line_size * h.counts.lines) w.lines;
    }

-- each of which is good
pub record Entries (u : List ℕ) : Type 0 where
  pub metadata : (k : ℕ) → k < (header_of u).counts.metadata → good_metadata (header_of u).counts.cases (metadata_at (metadata_of u) k) ≡ true
  pub types : (k : ℕ) → k < (header_of u).counts.types → good_type (type_at (types_of u) k) ≡ true
  pub constants : (k : ℕ) → k < (header_of u).counts.constants → good_constant (constants_of u) k ≡ true
  pub cases : (k : ℕ) → k < (header_of u).counts.cases → good_case (case_at (cases_of u) k) ≡ true

pub entries : (u : List ℕ) → good_entries u ≡ true → Entries u
unfolding good_entries
entries u e =
    let cases = both _ _ e in
    let constants = both _ _ cases.0 in
    let types = both _ _ constants.0 in
    record {
      metadata = every_at _ _ types.0;
      types = every_at _ _ types.1;
      constants = every_at _ _ constants.1;
      cases = every_at _ _ cases.1;
    }

pub record WellFormed (u : List ℕ) : Type 0 where
  pub header : header_size ≤ length u
  pub locals : (header_of u).counts.locals ≤ max_local_slots
  pub defer : (header_of u).counts.defer ≤ 1
  pub good : good_entries u ≡ true
  pub sections : Sections (header_of u) (length u)
  pub within : Within (header_of u) (length u)
  pub lengths : Lengths u
  pub entries : Entries u

-- a header, with its sections
pub has_header : (u : List ℕ) → has_sections u ≡ true → header_size ≤ length u
unfolding has_sections
has_header u e = leb-true header_size (length u) (passed (leb header_size (length u)) _ e).0

pub has_counts : (u : List ℕ) → has_sections u ≡ true → good_counts (header_of u) ≡ true
unfolding has_sections
has_counts u e = (both (sections_follow (header_of u) (length u)) _ (passed (leb header_size (length u)) _ e).1).1

-- what the check finds, and its answers
pub no_sections : (u : List ℕ) → has_sections u ≡ false → is_unit u ≡ false
unfolding is_unit
no_sections u e = rw e

pub by_entries : (u : List ℕ) (good : Bool) → has_sections u ≡ true → good_entries u ≡ good → is_unit u ≡ good
unfolding is_unit
by_entries u good e f = rw (e, f)

pub not_laid_out : (u : List ℕ) → is_unit u ≡ false → layout_of u ≡ Refused not_unit 0
unfolding layout_of
not_laid_out u e = rw e

pub lines_fall : (u : List ℕ) → is_unit u ≡ true → lines_rise u ≡ false → layout_of u ≡ Refused line_places 0
unfolding layout_of after_unit
lines_fall u e f = rw (e, f)

pub too_many_cases_lem : (u : List ℕ) → is_unit u ≡ true → lines_rise u ≡ true → wide_select u < (header_of u).counts.metadata → layout_of u ≡ Refused too_many_cases (wide_select u)
unfolding layout_of after_unit after_lines
too_many_cases_lem u e f h = rw (e, f, lt-ltb (wide_select u) (header_of u).counts.metadata h)

pub laid_out_lem : (u : List ℕ) → is_unit u ≡ true → lines_rise u ≡ true → (header_of u).counts.metadata ≤ wide_select u → layout_of u ≡ Ok (header_of u)
unfolding layout_of after_unit after_lines
laid_out_lem u e f h = rw (e, f, le-ltb (wide_select u) (header_of u).counts.metadata h)

pub layout_unit : (u : List ℕ) (h : Header) → layout_of u ≡ Ok h → (is_unit u ≡ true) × (h ≡ header_of u) × (lines_rise u ≡ true)
unfolding layout_of after_unit after_lines
layout_unit u h = go (is_unit u) refl (lines_rise u) refl (ltb (wide_select u) (header_of u).counts.metadata)
  where
    go : (t : Bool) → is_unit u ≡ t → (l : Bool) → lines_rise u ≡ l → (w : Bool)
        → cond t (cond l (cond w (Refused too_many_cases (wide_select u)) (Ok (header_of u))) (Refused line_places 0)) (Refused not_unit 0) ≡ Ok h → (is_unit u ≡ true) × (h ≡ header_of u) × (lines_rise u ≡ true)
    go true r true f true e = let z : ◌≡◌ {A = ℕ} 0 1 = cc in absurd (omega arith)
    go true r true f false e = (r, cc, f)
    go true r false f w e = let z : ◌≡◌ {A = ℕ} 0 1 = cc in absurd (omega arith)
    go false r l f w e = let z : ◌≡◌ {A = ℕ} 0 1 = cc in absurd (omega arith)

-- every field of an entry fits its width
pub record MetadataFields (d : Metadata) : Type 0 where
  pub kind_fits : d.kind < 256
  pub ok_fits : d.ok < 256
  pub array_fits : d.array < 65536
  pub first_fits : d.first < 2 ^ 32
  pub second_fits : d.second < 2 ^ 32
  pub end_fits : d.end < 2 ^ 32

pub metadata_bytes_long : (d : Metadata) → length (metadata_bytes d) ≡ metadata_size
unfolding metadata_bytes to_le
metadata_bytes_long d = refl

-- an entry as four words: kind, ok and array are the first
pub metadata_words : (d : Metadata) → d.kind < 256 → d.ok < 256 → d.array < 65536
    → metadata_bytes d ≡ to_le 4 (d.kind + 256 * d.ok + 65536 * d.array) ++ to_le 4 d.first ++ to_le 4 d.second ++ to_le 4 d.end
unfolding metadata_bytes to_le
metadata_words d hk ho ha =
    let v : ℕ = d.kind + 256 * d.ok + 65536 * d.array in
    let kind : v % 256 ≡ d.kind = omega arith in
    let rest : v / 256 ≡ d.ok + 256 * d.array = omega arith in
    let ok : (d.ok + 256 * d.array) % 256 ≡ d.ok = omega arith in
    let array : (d.ok + 256 * d.array) / 256 ≡ d.array = omega arith in
    rw (kind, rest, ok, array)

-- only the sixteen bytes of a place count
metadata_at_place : (a xs b : List ℕ) (k : ℕ) → length a ≡ metadata_size * k → length xs ≡ metadata_size → metadata_at (a ++ xs ++ b) k ≡ metadata_at xs 0
unfolding metadata_at
metadata_at_place a xs b k long sixteen =
    rw (
      ← long,
      ap (λ (n : ℕ). get_or (a ++ xs ++ b) n 0) (sym (add-zero (length a))) ∙ get_inside a xs b 0 0 (omega arith),
      get_inside a xs b 1 0 (omega arith),
      mid_inside a xs b 2 2 (omega arith),
      mid_inside a xs b 4 4 (omega arith),
      mid_inside a xs b 8 4 (omega arith),
      mid_inside a xs b 12 4 (omega arith),
    )

entry_read_back : (d : Metadata) → MetadataFields d → metadata_at (metadata_bytes d) 0 ≡ d
unfolding metadata_at metadata_bytes to_le
entry_read_back d f =
    rw (
      from_to 2 d.array f.array_fits,
      from_to 4 d.first f.first_fits,
      from_to 4 d.second f.second_fits,
      from_to 4 d.end f.end_fits,
    )

pub metadata_read_back : (a b : List ℕ) (k : ℕ) (d : Metadata) → length a ≡ metadata_size * k → MetadataFields d → metadata_at (a ++ metadata_bytes d ++ b) k ≡ d
metadata_read_back a b k d long f = metadata_at_place a (metadata_bytes d) b k long (metadata_bytes_long d) ∙ entry_read_back d f

-- bytes that come from entries, k for each
entries_long : {A : Type 0} (k : ℕ) (bytes : List A → List ℕ) → length (bytes []) ≡ 0 → ((x : A) (xs : List A) → length (bytes (x ∷ xs)) ≡ k + length (bytes xs))
    → (xs : List A) → length (bytes xs) ≡ k * length xs
entries_long k bytes none more [] = none ∙ sym (mul-zero k)
entries_long k bytes none more (x ∷ xs) = more x xs ∙ ap (λ (n : ℕ). k + n) (entries_long k bytes none more xs) ∙ rw mul-suc (omega arith)

pub code_bytes_long : (xs : List Retained) → length (code_bytes xs) ≡ instruction_size * length xs
unfolding code_bytes to_le
code_bytes_long = entries_long 8 code_bytes refl (λ x xs. omega arith)

pub metadata_bytes_all_long : (xs : List Retained) → length (metadata_bytes_all xs) ≡ metadata_size * length xs
unfolding metadata_bytes_all metadata_bytes to_le
metadata_bytes_all_long = entries_long 16 metadata_bytes_all refl (λ x xs. omega arith)

pub place_bytes_long : (xs : List Retained) → length (place_bytes xs) ≡ 4 * length xs
unfolding place_bytes to_le
place_bytes_long = entries_long 4 place_bytes refl (λ x xs. omega arith)

pub line_bytes_all_long : (ls : List Line) → length (line_bytes_all ls) ≡ line_size * length ls
unfolding line_bytes_all line_bytes to_le
line_bytes_all_long = entries_long 8 line_bytes_all refl (λ x xs. omega arith)

pub result_header_long : (k l : ℕ) → length (result_header k l) ≡ result_header_size
unfolding result_header to_le
result_header_long k l = refl

pub result_long : (xs : List Retained) (ls : List Line) → length (result_bytes xs ls) ≡ result_size (length xs) (length ls)
unfolding result_bytes
result_long xs ls = simp (length-append, result_header_long, code_bytes_long, metadata_bytes_all_long, place_bytes_long, line_bytes_all_long) (omega arith)
