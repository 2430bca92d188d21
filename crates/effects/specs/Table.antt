-- Definitions. Which opcodes have which shape, arm by arm of instruction_effects.rs.
-- Assumes nothing.
use Rattle.std.specs.Prelude.{cond, List, [], ◌∷◌, ℕ}
use Rattle.words.specs.Lists.{is_in}
use Rattle.instruction.specs.Opcode as op
use Rattle.unit.specs.Entry.{kind_elem_layout, kind_map_get, kind_map_set, kind_map_delete, kind_ptr_layout, kind_slot_layout, kind_queue_layout, kind_select_exec_layout, kind_map_iter_next, kind_iface_assert_layout}
use Rattle.effects.specs.Shape.{Demand, nothing, kind, call_layout, result_layout, callee, extern, call_shape, fixed, field_a, field_b, field_c, field_flags, first, second, both, first_flag, second_ok, array, params, results, returns, arguments, always, flags_are, flag_bit, closure, Part, part, Shape}

pub record Arm : Type 0 where
  pub opcodes : List ℕ
  pub shape : Shape

abbrev pub row : List ℕ → Shape → Arm
row opcodes s = record { opcodes = opcodes; shape = s }

abbrev pub shape : Demand → List Part → Shape
shape demand parts = record { demand = demand; parts = parts }

-- the shape of an opcode's row, or this one where no row names it
unfoldable pub shape_in : List Arm → Shape → ℕ → Shape
shape_in [] other o = other
shape_in (r ∷ rs) other o = let rest = shape_in rs other o in cond (is_in o r.opcodes) r.shape rest

-- `visit_instruction_register_reads`; an opcode that is not named reads nothing
abbrev pub read_rows : List Arm
read_rows =
    row
    (op.Copy ∷ op.PtrNew ∷ op.PtrGet ∷ op.PtrGetN ∷ op.NegI ∷ op.NegF ∷ op.NegF32 ∷ op.Not ∷ op.BoolNot ∷
    op.StrLen ∷ op.SliceLen ∷ op.SliceCap ∷ op.MapLen ∷ op.MapIterInit ∷ op.QueueRecv ∷ op.SelectRecv ∷
    op.QueueLen ∷ op.QueueCap ∷ op.ConvI2F ∷ op.ConvF2I ∷ op.ConvF64F32 ∷ op.ConvF32F64 ∷ op.Trunc ∷
    op.GlobalSet ∷ [])
    (shape nothing (part field_b (fixed 1) ∷ []))
    ∷
    row
    (op.PtrAdd ∷ op.AddI ∷ op.SubI ∷ op.MulI ∷ op.DivI ∷ op.DivU ∷ op.ModI ∷ op.ModU ∷ op.AddF ∷ op.AddF32 ∷
    op.SubF ∷ op.SubF32 ∷ op.MulF ∷ op.MulF32 ∷ op.DivF ∷ op.DivF32 ∷ op.EqI ∷ op.NeI ∷ op.LtI ∷ op.LtU ∷
    op.LeI ∷ op.LeU ∷ op.GtI ∷ op.GtU ∷ op.GeI ∷ op.GeU ∷ op.EqF ∷ op.EqF32 ∷ op.NeF ∷ op.NeF32 ∷ op.LtF ∷
    op.LtF32 ∷ op.LeF ∷ op.LeF32 ∷ op.GtF ∷ op.GtF32 ∷ op.GeF ∷ op.GeF32 ∷ op.And ∷ op.Or ∷ op.Xor ∷ op.AndNot ∷
    op.Shl ∷ op.ShrS ∷ op.ShrU ∷ op.StrIndex ∷ op.StrConcat ∷ op.StrEq ∷ op.StrNe ∷ op.StrLt ∷ op.StrLe ∷
    op.StrGt ∷ op.StrGe ∷ op.StrDecodeRune ∷ op.ArrayNew ∷ op.ArrayGet ∷ op.ArrayAddr ∷ op.SliceGet ∷
    op.SliceAddr ∷ op.SlotSet ∷ op.QueueNew ∷ [])
    (shape nothing (part field_b (fixed 1) ∷ part field_c (fixed 1) ∷ []))
    ∷
    row
    (op.JumpIf ∷ op.JumpIfNot ∷ op.QueueClose ∷ [])
    (shape nothing (part field_a (fixed 1) ∷ []))
    ∷
    row
    (op.CopyN ∷ [])
    (shape nothing (part field_b field_c ∷ []))
    ∷
    row
    (op.SlotGet ∷ op.SlotGetN ∷ [])
    (shape nothing (part field_c (fixed 1) ∷ []))
    ∷
    row
    (op.SlotSetN ∷ [])
    (shape (kind kind_slot_layout) (part field_b (fixed 1) ∷ part field_c first ∷ []))
    ∷
    row
    (op.GlobalSetN ∷ [])
    (shape nothing (part field_b field_flags ∷ []))
    ∷
    row
    (op.PtrSet ∷ [])
    (shape nothing (part field_a (fixed 1) ∷ part field_c (fixed 1) ∷ []))
    ∷
    row
    (op.PtrSetN ∷ [])
    (shape (kind kind_ptr_layout) (part field_a (fixed 1) ∷ part field_c first ∷ []))
    ∷
    row
    (op.Call ∷ [])
    (shape callee (part field_b params ∷ []))
    ∷
    row
    (op.CallExtern ∷ [])
    (shape call_layout (part field_c first ∷ []))
    ∷
    row
    (op.CallClosure ∷ [])
    (shape call_layout (part field_a (fixed 1) ∷ part field_b first ∷ []))
    ∷
    row
    (op.CallIface ∷ [])
    (shape call_layout (part field_a (fixed 2) ∷ part field_b first ∷ []))
    ∷
    row
    (op.Return ∷ [])
    (shape nothing (part field_a field_b ∷ []))
    ∷
    row
    (op.StrSlice ∷ op.SliceNew ∷ [])
    (shape nothing (part field_b (fixed 1) ∷ part field_c (fixed 2) ∷ []))
    ∷
    row
    (op.ArraySet ∷ op.SliceSet ∷ [])
    (shape (kind kind_elem_layout) (part field_a (fixed 1) ∷ part field_b (fixed 1) ∷ part field_c first ∷ []))
    ∷
    row
    (op.SliceSlice ∷ [])
    (shape nothing (part field_b (fixed 1) ∷ record { when = flag_bit 4; base = field_b; offset = fixed 1; count = fixed 5 } ∷ part field_c (fixed 2) ∷ record { when = flag_bit 2; base = field_c; offset = fixed 2; count = fixed 1 } ∷ []))
    ∷
    row
    (op.SliceAppend ∷ [])
    (shape (kind kind_elem_layout) (part field_b (fixed 1) ∷ part field_c (fixed 1) ∷ record { when = always; base = field_c; offset = fixed 1; count = first } ∷ []))
    ∷
    row
    (op.MapNew ∷ [])
    (shape nothing (part field_b (fixed 2) ∷ []))
    ∷
    row
    (op.MapGet ∷ [])
    (shape (kind kind_map_get) (part field_b (fixed 1) ∷ part field_c first ∷ []))
    ∷
    row
    (op.MapSet ∷ [])
    (shape (kind kind_map_set) (part field_a (fixed 1) ∷ part field_b first ∷ part field_c second ∷ []))
    ∷
    row
    (op.MapDelete ∷ [])
    (shape (kind kind_map_delete) (part field_a (fixed 1) ∷ part field_b first ∷ []))
    ∷
    row
    (op.MapIterNext ∷ [])
    (shape nothing (part field_b (fixed 7) ∷ []))
    ∷
    row
    (op.QueueSend ∷ op.SelectSend ∷ [])
    (shape (kind kind_queue_layout) (part field_a (fixed 1) ∷ part field_b first ∷ []))
    ∷
    row
    (op.SelectExec ∷ [])
    (shape (kind kind_select_exec_layout) ([]))
    ∷
    row
    (op.ClosureGet ∷ [])
    (shape nothing (part (fixed 0) (fixed 1) ∷ []))
    ∷
    row
    (op.GoStart ∷ op.DeferPush ∷ op.ErrDeferPush ∷ [])
    (shape call_shape (record { when = closure; base = field_a; offset = fixed 0; count = fixed 1 } ∷ part field_b arguments ∷ []))
    ∷
    row
    (op.Panic ∷ [])
    (shape nothing (part field_a (fixed 2) ∷ []))
    ∷
    row
    (op.IfaceAssign ∷ [])
    (shape nothing (part field_b (fixed 1) ∷ record { when = flags_are 16; base = field_b; offset = fixed 1; count = fixed 1 } ∷ []))
    ∷
    row
    (op.IfaceAssert ∷ [])
    (shape nothing (part field_b (fixed 2) ∷ []))
    ∷
    row
    (op.IfaceEq ∷ [])
    (shape nothing (part field_b (fixed 2) ∷ part field_c (fixed 2) ∷ []))
    ∷
    row
    (op.IndexCheck ∷ op.ForLoop ∷ [])
    (shape nothing (part field_a (fixed 1) ∷ part field_b (fixed 1) ∷ []))
    ∷
    row
    (op.GoIsland ∷ [])
    (shape call_layout (part field_a (fixed 1) ∷ part field_b (fixed 1) ∷ part field_c first ∷ []))
    ∷ []

unfoldable pub read_shape : ℕ → Shape
unfolding shape_in
read_shape = shape_in read_rows (shape nothing [])

-- `visit_instruction_register_writes`, the surely written ranges. "Writes have a default: an opcode not named there writes a, ForLoop included."
abbrev pub write_rows : List Arm
write_rows =
    row
    (op.Hint ∷ op.SlotSet ∷ op.SlotSetN ∷ op.GlobalSet ∷ op.GlobalSetN ∷ op.PtrSet ∷ op.PtrSetN ∷ op.Jump ∷
    op.JumpIf ∷ op.JumpIfNot ∷ op.Return ∷ op.ArraySet ∷ op.SliceSet ∷ op.MapSet ∷ op.MapDelete ∷ op.QueueSend ∷
    op.QueueClose ∷ op.SelectBegin ∷ op.SelectSend ∷ op.SelectRecv ∷ op.GoStart ∷ op.DeferPush ∷
    op.ErrDeferPush ∷ op.Panic ∷ op.IndexCheck ∷ op.GoIsland ∷ [])
    (shape nothing ([]))
    ∷
    row
    (op.CopyN ∷ [])
    (shape nothing (part field_a field_c ∷ []))
    ∷
    row
    (op.SlotGetN ∷ [])
    (shape (kind kind_slot_layout) (part field_a first ∷ []))
    ∷
    row
    (op.GlobalGetN ∷ [])
    (shape nothing (part field_a field_flags ∷ []))
    ∷
    row
    (op.PtrGetN ∷ [])
    (shape (kind kind_ptr_layout) (part field_a first ∷ []))
    ∷
    row
    (op.Call ∷ [])
    (shape callee (record { when = always; base = field_b; offset = params; count = results } ∷ []))
    ∷
    row
    (op.CallClosure ∷ op.CallIface ∷ [])
    (shape result_layout (record { when = always; base = field_b; offset = first; count = second } ∷ []))
    ∷
    row
    (op.CallExtern ∷ [])
    (shape extern (part field_a returns ∷ []))
    ∷
    row
    (op.ArrayGet ∷ op.SliceGet ∷ [])
    (shape (kind kind_elem_layout) (part field_a first ∷ []))
    ∷
    row
    (op.MapGet ∷ [])
    (shape (kind kind_map_get) (part field_a second_ok ∷ []))
    ∷
    row
    (op.MapIterInit ∷ [])
    (shape nothing (part field_a (fixed 7) ∷ []))
    ∷
    row
    (op.MapIterNext ∷ [])
    (shape (kind kind_map_iter_next) (part field_b (fixed 7) ∷ part field_c (fixed 1) ∷ []))
    ∷
    row
    (op.QueueRecv ∷ [])
    (shape (kind kind_queue_layout) (part field_a first_flag ∷ []))
    ∷
    row
    (op.SelectExec ∷ [])
    (shape (kind kind_select_exec_layout) (part field_a (fixed 1) ∷ []))
    ∷
    row
    (op.IfaceAssign ∷ op.Recover ∷ op.StrDecodeRune ∷ [])
    (shape nothing (part field_a (fixed 2) ∷ []))
    ∷
    row
    (op.IfaceAssert ∷ [])
    (shape (kind kind_iface_assert_layout) (part field_a first_flag ∷ []))
    ∷ []

unfoldable pub write_shape : ℕ → Shape
unfolding shape_in
write_shape = shape_in write_rows (shape nothing (part field_a (fixed 1) ∷ []))

-- "receive destinations with their ok slots, and MapIterNext's range at a, are perhaps written" (document 02, L5): the first are those of
-- SelectExec's cases (`case_writes` in Effects); what both must be told is demanded above.
abbrev pub perhaps_rows : List Arm
perhaps_rows = row (op.MapIterNext ∷ []) (shape nothing (part field_a both ∷ [])) ∷ []

unfoldable pub perhaps_shape : ℕ → Shape
unfolding shape_in
perhaps_shape = shape_in perhaps_rows (shape nothing [])

-- `instruction_frame_memory_effect`: "for the four Slot opcodes, an array range that counts as read"
abbrev pub array_rows : List Arm
array_rows =
    row (op.SlotGet ∷ op.SlotGetN ∷ []) (shape (kind kind_slot_layout) (part field_b array ∷ []))
    ∷ row (op.SlotSet ∷ op.SlotSetN ∷ []) (shape (kind kind_slot_layout) (part field_a array ∷ []))
    ∷ []

unfoldable pub array_shape : ℕ → Shape
unfolding shape_in
array_shape = shape_in array_rows (shape nothing [])
