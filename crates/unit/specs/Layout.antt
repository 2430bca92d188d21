-- Definitions. "The unit": its header, its sections, and whether bytes are one.
-- Assumes nothing.
use Rattle.std.specs.Prelude.{Result, Ok, Bool, false, cond, ◌&&◌, List, ℕ, ◌+◌, ◌*◌, eqb, leb, ltb, length}
use borrow.Rule.Slice.PartMut.{mid_of}
use Rattle.words.specs.Le.{u32_at}
use Rattle.words.specs.Lists.{every, lowest_below}
use Rattle.unit.specs.Refusal.{not_unit, line_places, too_many_cases, Refused}
use Rattle.unit.specs.Size.{header_size, instruction_size, metadata_size, constant_size, function_size, extern_size, case_size, line_size, max_local_slots}
use Rattle.unit.specs.Entry.{metadata_at, good_metadata, is_wide_select, type_at, good_type, good_constant, case_at, good_case, good_line}
use Rattle.unit.specs.declared.Header.{Header}
use Rattle.unit.specs.declared.refusal.Refusal.{Refusal}

-- "a header of counts and offsets: instructions n, metadata m, local slots s .., slot types, defer .., constants, functions,
-- externs, select cases; then the byte offsets of code, metadata, types, constants, functions, externs, cases"; document 02, L3:
-- "The unit's header gains two last words, a count and an offset"
unfoldable pub header_of : List ℕ → Header
header_of u =
    record {
      counts = record {
        instructions = u32_at u 0;
        metadata = u32_at u 4;
        locals = u32_at u 8;
        types = u32_at u 12;
        defer = u32_at u 16;
        constants = u32_at u 20;
        functions = u32_at u 24;
        externs = u32_at u 28;
        cases = u32_at u 32;
        lines = u32_at u 64;
      };
      offsets = record {
        code = u32_at u 36;
        metadata = u32_at u 40;
        types = u32_at u 44;
        constants = u32_at u 48;
        functions = u32_at u 52;
        externs = u32_at u 56;
        cases = u32_at u 60;
        lines = u32_at u 68;
      };
    }

-- "Sections follow in that order from byte 64, without gaps, to the unit's end", from byte 72 now; "the line section comes last"
unfoldable pub sections_follow : Header → ℕ → Bool
sections_follow h size =
    eqb h.offsets.code header_size
    && eqb h.offsets.metadata (h.offsets.code + instruction_size * h.counts.instructions)
    && eqb h.offsets.types (h.offsets.metadata + metadata_size * h.counts.metadata)
    && eqb h.offsets.constants (h.offsets.types + h.counts.types)
    && eqb h.offsets.functions (h.offsets.constants + constant_size * h.counts.constants)
    && eqb h.offsets.externs (h.offsets.functions + function_size * h.counts.functions)
    && eqb h.offsets.cases (h.offsets.externs + extern_size * h.counts.externs)
    && eqb h.offsets.lines (h.offsets.cases + case_size * h.counts.cases)
    && eqb size (h.offsets.lines + line_size * h.counts.lines)

-- "local slots s (at most 65,535)", "defer (0 or 1)"
unfoldable pub good_counts : Header → Bool
good_counts h = leb h.counts.locals max_local_slots && leb h.counts.defer 1

-- the sections' bytes
abbrev pub code_of : List ℕ → List ℕ
code_of u = mid_of (header_of u).offsets.code (instruction_size * (header_of u).counts.instructions) u

abbrev pub metadata_of : List ℕ → List ℕ
metadata_of u = mid_of (header_of u).offsets.metadata (metadata_size * (header_of u).counts.metadata) u

abbrev pub types_of : List ℕ → List ℕ
types_of u = mid_of (header_of u).offsets.types (header_of u).counts.types u

abbrev pub constants_of : List ℕ → List ℕ
constants_of u = mid_of (header_of u).offsets.constants (constant_size * (header_of u).counts.constants) u

abbrev pub functions_of : List ℕ → List ℕ
functions_of u = mid_of (header_of u).offsets.functions (function_size * (header_of u).counts.functions) u

abbrev pub externs_of : List ℕ → List ℕ
externs_of u = mid_of (header_of u).offsets.externs (extern_size * (header_of u).counts.externs) u

abbrev pub cases_of : List ℕ → List ℕ
cases_of u = mid_of (header_of u).offsets.cases (case_size * (header_of u).counts.cases) u

abbrev pub lines_of : List ℕ → List ℕ
lines_of u = mid_of (header_of u).offsets.lines (line_size * (header_of u).counts.lines) u

-- every entry of every section is as "Entries" says
unfoldable pub good_entries : List ℕ → Bool
good_entries u =
    let h = header_of u in
    let metadata = metadata_of u in
    let types = types_of u in
    let constants = constants_of u in
    let cases = cases_of u in
    every h.counts.metadata (λ k. good_metadata h.counts.cases (metadata_at metadata k))
    && every h.counts.types (λ k. good_type (type_at types k))
    && every h.counts.constants (λ k. good_constant constants k)
    && every h.counts.cases (λ k. good_case (case_at cases k))

-- a header, with the sections that it says
unfoldable pub has_sections : List ℕ → Bool
has_sections u =
    let sections = sections_follow (header_of u) (length u) && good_counts (header_of u) in
    cond (leb header_size (length u)) sections false

-- bytes laid out as document 01 says
unfoldable pub is_unit : List ℕ → Bool
is_unit u = let entries = good_entries u in cond (has_sections u) entries false

-- document 02, L9: the lowest metadata entry that is a select of too many cases, or the number of entries
unfoldable pub wide_select : List ℕ → ℕ
wide_select u = let metadata = metadata_of u in lowest_below (header_of u).counts.metadata (λ k. is_wide_select (metadata_at metadata k))

-- document 02, L3: "each entry an old place and a line of 32 bits, places strictly rising"
unfoldable pub lines_rise : List ℕ → Bool
lines_rise u =
    let n = (header_of u).counts.instructions in
    let lines = lines_of u in
    every (header_of u).counts.lines (λ k. good_line n lines k)

-- The first rows of the table of answers, which are those of the unit's own bytes, from the last upward.

-- "13, place of the lowest such record"
unfoldable pub after_lines : List ℕ → Result Header Refusal
after_lines u = cond (ltb (wide_select u) (header_of u).counts.metadata) (Refused too_many_cases (wide_select u)) (Ok (header_of u))

-- "11, place 0: places not strictly rising or not below n; checked directly after 1"
unfoldable pub after_unit : List ℕ → Result Header Refusal
after_unit u = let rest = after_lines u in cond (lines_rise u) rest (Refused line_places 0)

-- "refused 1, place 0: unit not as above"
unfoldable pub layout_of : List ℕ → Result Header Refusal
layout_of u = let rest = after_unit u in cond (is_unit u) rest (Refused not_unit 0)
