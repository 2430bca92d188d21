-- Definitions. The shape of an instruction's effects: what it needs to be told, and the ranges of slots that it then names.
-- A shape stands for the opcodes of one arm of instruction_effects.rs (Table.antt says which).
-- Assumes nothing.
use Rattle.std.specs.Prelude.{Option, None, Some, Bool, false, ◌||◌, List, ℕ, ◌+◌, ◌*◌, ◌/◌, ◌%◌, eqb, get_or}
use Rattle.std.proofs.Math.Bool.{true, cond}
use Rattle.instruction.specs.Instruction.{static_call_func_id, call_shape_is_closure, call_shape_static_func_id}
use Rattle.unit.specs.declared.Callee.{Callee}
use Rattle.unit.specs.Entry.{function_at, extern_at, kind_call_layout, kind_call_iface_layout, kind_call_extern_layout}
use Rattle.effects.specs.declared.Range.{Range}
use Rattle.effects.specs.declared.Cell as code
use Rattle.effects.specs.declared.Callees as names
use Rattle.effects.specs.declared.Tables as view

-- The sections that effects look at.
pub record Tables : Type 0 where
  pub functions : List ℕ
  pub externs : List ℕ
  pub cases : List ℕ

abbrev pub tables_of : List ℕ → List ℕ → List ℕ → Tables
tables_of functions externs cases = record { functions = functions; externs = externs; cases = cases }

-- what those sections hold that code has a view of
abbrev pub tables_in : view.Tables → Tables
tables_in t = tables_of t.callees.functions.now t.callees.externs.now t.cases.now

-- what may be called, with any cases
abbrev pub tables_with : List ℕ → names.Callees → Tables
tables_with cases t = tables_of t.functions.now t.externs.now cases

-- All of a unit that stays as it is while its code and metadata change.
pub record Sections : Type 0 where
  pub locals : ℕ
  pub types : List ℕ
  pub constants : List ℕ
  pub tables : Tables

-- an instruction with its metadata
abbrev pub Cell : Type 0
Cell = code.Cell

-- what stands at a place past the end
abbrev pub no_cell : Cell
no_cell =
    record {
      instruction = record { op = 255; flags = 0; a = 0; b = 0; c = 0 };
      metadata = record { kind = 0; ok = 0; array = 0; first = 0; second = 0; end = 0 };
    }

abbrev pub cell_at : List Cell → ℕ → Cell
cell_at cells p = get_or cells p no_cell

-- What must be there, or the effects are an error: "a wrong metadata kind and a missing function or extern".
pub data Demand : Type 0 where
  -- nothing; metadata of one kind
  nothing : Demand
  kind : ℕ → Demand
  -- metadata of one of the three call layouts; of one of the two that CallClosure and CallIface write by
  call_layout : Demand
  result_layout : Demand
  -- the function that Call names; the extern that CallExtern names
  callee : Demand
  extern : Demand
  -- GoStart, DeferPush, ErrDeferPush: a call layout for a closure, else the function
  call_shape : Demand

-- a number that a range's start or count is made of
pub data Term : Type 0 where
  fixed : ℕ → Term
  -- the instruction's fields
  field_a field_b field_c field_flags : Term
  -- the metadata's two lengths and their sum; the first with the slot that bit 0 of flags asks for, the second with has_ok's
  first second both first_flag second_ok : Term
  -- the length of the array range
  array : Term
  -- the parameter and return slots of the function, the return slots of the extern
  params results returns : Term
  -- the arguments of a call shape: a closure's by its layout, else the function's parameters
  arguments : Term

-- a range is there always, or only where flags say so: they are this number, have the bit 2 ^ k that is given, or call a closure
pub data When : Type 0 where
  always : When
  flags_are : ℕ → When
  flag_bit : ℕ → When
  closure : When

pub record Part : Type 0 where
  pub when : When
  pub base : Term
  pub offset : Term
  pub count : Term

pub record Shape : Type 0 where
  pub demand : Demand
  pub parts : List Part

-- `count` slots from `base` on
abbrev pub part : Term → Term → Part
part base count = record { when = always; base = base; offset = fixed 0; count = count }

-- ---- what the terms mean for one instruction

unfoldable pub is_there : Option Callee → Bool
is_there (Some f) = true
is_there None = false

unfoldable pub param_slots : Option Callee → ℕ
param_slots (Some f) = f.params
param_slots None = 0

unfoldable pub return_slots : Option Callee → ℕ
return_slots (Some f) = f.returns
return_slots None = 0

unfoldable pub is_known : Option ℕ → Bool
is_known (Some r) = true
is_known None = false

unfoldable pub extern_slots : Option ℕ → ℕ
extern_slots (Some r) = r
extern_slots None = 0

module _ (T : Tables) (x : Cell) where
  abbrev pub function : Option Callee
  function = function_at T.functions (static_call_func_id x.instruction)

  abbrev pub shape_function : Option Callee
  shape_function = function_at T.functions (call_shape_static_func_id x.instruction)

  abbrev pub extern_def : Option ℕ
  extern_def = extern_at T.externs x.instruction.b

  unfoldable pub is_kind : ℕ → Bool
  is_kind k = eqb x.metadata.kind k

  unfoldable pub met : Demand → Bool
  unfolding is_kind is_there is_known
  met nothing = true
  met (kind k) = is_kind k
  met call_layout = is_kind kind_call_layout || is_kind kind_call_iface_layout || is_kind kind_call_extern_layout
  met result_layout = is_kind kind_call_layout || is_kind kind_call_iface_layout
  met callee = is_there function
  met extern = is_known extern_def
  met call_shape =
      cond (call_shape_is_closure x.instruction)
      (is_kind kind_call_layout || is_kind kind_call_iface_layout || is_kind kind_call_extern_layout)
      (is_there shape_function)

  unfoldable pub value : Term → ℕ
  unfolding param_slots return_slots extern_slots
  value (fixed k) = k
  value field_a = x.instruction.a
  value field_b = x.instruction.b
  value field_c = x.instruction.c
  value field_flags = x.instruction.flags
  value first = x.metadata.first
  value second = x.metadata.second
  value both = x.metadata.first + x.metadata.second
  value first_flag = x.metadata.first + x.instruction.flags % 2
  value second_ok = x.metadata.second + x.metadata.ok
  value array = x.metadata.array * x.metadata.first
  value params = param_slots function
  value results = return_slots function
  value returns = extern_slots extern_def
  value arguments = cond (call_shape_is_closure x.instruction) x.metadata.first (param_slots shape_function)

  unfoldable pub applies : When → Bool
  applies always = true
  applies (flags_are k) = eqb x.instruction.flags k
  applies (flag_bit k) = eqb (x.instruction.flags / k % 2) 1
  applies closure = call_shape_is_closure x.instruction

  -- the range of a part; one that does not apply is empty
  unfoldable pub range_of : Part → Range
  unfolding applies value
  range_of q =
      cond (applies q.when)
      (record { start = value q.base + value q.offset; count = value q.count })
      (record { start = 0; count = 0 })
