-- Definitions. The entries of the unit's sections, each read from its section's bytes.
-- Assumes nothing.
use Rattle.std.specs.Prelude.{Option, None, Some, Bool, true, false, cond, ◌&&◌, List, ◌∷◌, ◌++◌, ℕ, suc, ◌+◌, ◌*◌, ◌/◌, eqb, leb, ltb, length, get_or}
use Rattle.words.specs.Le.{u16_at, u32_at, u64_at, to_le}
use Rattle.words.specs.Lists.{tabulate}
use Rattle.unit.specs.Size.{metadata_size, constant_size, function_size, extern_size, case_size, line_size, max_select_cases}
use Rattle.unit.specs.declared.Metadata.{Metadata}
use Rattle.unit.specs.declared.Constant.{Constant}
use Rattle.unit.specs.declared.Constant.TheVariants.{Nil, Bool as BoolConstant, Int, Float, String}
use Rattle.unit.specs.declared.Callee.{Callee}
use Rattle.unit.specs.declared.SelectCase.{SelectCase}
use Rattle.unit.specs.declared.Line.{Line}

-- "Metadata, 16 bytes: kind .., has_ok .., array length (16 bits), first layout's length, second's, end_pc (32 bits each)"
unfoldable pub metadata_at : List ℕ → ℕ → Metadata
metadata_at l k =
    record {
      kind = get_or l (metadata_size * k) 0;
      ok = get_or l (metadata_size * k + 1) 0;
      array = u16_at l (metadata_size * k + 2);
      first = u32_at l (metadata_size * k + 4);
      second = u32_at l (metadata_size * k + 8);
      end = u32_at l (metadata_size * k + 12);
    }

-- its bytes
unfoldable pub metadata_bytes : Metadata → List ℕ
metadata_bytes d = d.kind ∷ d.ok ∷ to_le 2 d.array ++ to_le 4 d.first ++ to_le 4 d.second ++ to_le 4 d.end

-- "kind 0 to 15 in the order of `InstructionMetadata`"
abbrev pub kind_none : ℕ
kind_none = 0

abbrev pub kind_elem_layout : ℕ
kind_elem_layout = 1

abbrev pub kind_map_get : ℕ
kind_map_get = 2

abbrev pub kind_map_new : ℕ
kind_map_new = 3

abbrev pub kind_map_set : ℕ
kind_map_set = 4

abbrev pub kind_map_delete : ℕ
kind_map_delete = 5

abbrev pub kind_ptr_layout : ℕ
kind_ptr_layout = 6

abbrev pub kind_slot_layout : ℕ
kind_slot_layout = 7

abbrev pub kind_call_layout : ℕ
kind_call_layout = 8

abbrev pub kind_call_iface_layout : ℕ
kind_call_iface_layout = 9

abbrev pub kind_call_extern_layout : ℕ
kind_call_extern_layout = 10

abbrev pub kind_queue_layout : ℕ
kind_queue_layout = 11

abbrev pub kind_select_exec_layout : ℕ
kind_select_exec_layout = 12

abbrev pub kind_map_iter_next : ℕ
kind_map_iter_next = 13

abbrev pub kind_iface_assert_layout : ℕ
kind_iface_assert_layout = 14

abbrev pub kind_loop_end : ℕ
kind_loop_end = 15

-- "kind 0 to 15 .., has_ok 0 or 1 in every kind"; "First case plus number is at most the count of cases"
unfoldable pub good_metadata : ℕ → Metadata → Bool
good_metadata cases d =
    cond (leb d.kind kind_loop_end)
    (cond (leb d.ok 1) (cond (eqb d.kind kind_select_exec_layout) (leb (d.first + d.second) cases) true) false)
    false

-- document 02, L9: "a SelectExecLayout of more than 24"
unfoldable pub is_wide_select : Metadata → Bool
is_wide_select d = eqb d.kind kind_select_exec_layout && ltb max_select_cases d.second

-- "Type: one byte 0 to 5": Value 0, GcBase 1, GcRef 2, Interface0 3, Interface1 4, Float 5
abbrev pub type_value : ℕ
type_value = 0

abbrev pub type_float : ℕ
type_float = 5

abbrev pub type_at : List ℕ → ℕ → ℕ
type_at l k = get_or l k 0

abbrev pub good_type : ℕ → Bool
good_type t = leb t type_float

-- "Constant: kind (Nil 0, Bool 1, Int 2, Float 3, String 4), seven unread bytes, 8-byte value (Bool 0 or 1)"
unfoldable pub constant_of : ℕ → ℕ → Constant
constant_of kind value =
    cond (eqb kind 0) Nil
    (cond (eqb kind 1) (BoolConstant value) (cond (eqb kind 2) (Int value) (cond (eqb kind 3) (Float value) String)))

abbrev pub constant_kind : List ℕ → ℕ → ℕ
constant_kind l k = get_or l (constant_size * k) 0

abbrev pub constant_value : List ℕ → ℕ → ℕ
constant_value l k = u64_at l (constant_size * k + 8)

unfoldable pub constant_at : List ℕ → ℕ → Option Constant
constant_at l k =
    let found = Some (constant_of (constant_kind l k) (constant_value l k)) in
    cond (ltb k (length l / constant_size)) found None

unfoldable pub good_constant : List ℕ → ℕ → Bool
good_constant l k =
    cond (leb (constant_kind l k) 4) (cond (eqb (constant_kind l k) 1) (leb (constant_value l k) 1) true) false

-- "Callee: parameter and return slots, 16 bits each"
unfoldable pub function_at : List ℕ → ℕ → Option Callee
function_at l k =
    let found = Some (record { params = u16_at l (function_size * k); returns = u16_at l (function_size * k + 2) }) in
    cond (ltb k (length l / function_size)) found None

-- "Extern: return slots, 16 bits"
unfoldable pub extern_at : List ℕ → ℕ → Option ℕ
extern_at l k =
    let found = Some (u16_at l (extern_size * k)) in
    cond (ltb k (length l / extern_size)) found None

-- "Case, 8 bytes: kind (0 send, 1 receive), has_ok likewise, queue, value or destination, element slots"
unfoldable pub case_at : List ℕ → ℕ → SelectCase
case_at l k =
    record {
      kind = get_or l (case_size * k) 0;
      ok = get_or l (case_size * k + 1) 0;
      queue = u16_at l (case_size * k + 2);
      slot = u16_at l (case_size * k + 4);
      elements = u16_at l (case_size * k + 6);
    }

unfoldable pub good_case : SelectCase → Bool
good_case x = cond (leb x.kind 1) (leb x.ok 1) false

-- Document 02, L3: "each entry an old place and a line of 32 bits"
unfoldable pub line_at : List ℕ → ℕ → Line
line_at l k = record { place = u32_at l (line_size * k); line = u32_at l (line_size * k + 4) }

-- its bytes
unfoldable pub line_bytes : Line → List ℕ
line_bytes e = to_le 4 e.place ++ to_le 4 e.line

-- "places strictly rising", "below n": the place of entry k is below that of the next one, and that of the last below n
unfoldable pub good_line : ℕ → List ℕ → ℕ → Bool
good_line n l k = let next = (line_at l (suc k)).place in ltb (line_at l k).place (cond (ltb (suc k) (length l / line_size)) next n)

-- the entries of a section
abbrev pub lines_in : List ℕ → List Line
lines_in l = tabulate (length l / line_size) (line_at l)
