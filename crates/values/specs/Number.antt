-- Definitions. The walk over the function: each instruction rewritten by the values known before it.
-- Assumes nothing.
use Rattle.std.specs.Prelude.{Option, Some, None, ℕ, suc, ◌%◌, ◌^◌, Bool, cond, not, ◌&&◌, ◌||◌, List, [], ◌∷◌, ◌==◌, nat_eq, slice_index, slice_index_or}
use Rattle.words.specs.Lists.{is_in}
use Rattle.instruction.specs.Opcode as op
use Rattle.instruction.specs.declared.Instruction.{Instruction}
use Rattle.instruction.specs.declared.Class.{Class}
use Rattle.instruction.specs.declared.Class.TheVariants.{Hint, LoadInt, LoadConst, Copy, CopyN, Unary, Binary, Jump, JumpIf, JumpIfNot, ForLoop, Return, Panic, Outside, Invalid}
use Rattle.instruction.specs.Instruction.{imm32, plain, with_imm32, class}
use Rattle.unit.specs.declared.Constant.{Constant}
use Rattle.unit.specs.declared.Constant.TheVariants.{Nil, Bool as BoolConstant, Int, Float as FloatConstant, String}
use Rattle.unit.specs.Entry.{constant_at, type_value, type_float}
use Rattle.effects.specs.Shape.{Sections, Cell}
use Rattle.values.specs.declared.Atom.{Atom}
use Rattle.values.specs.declared.Atom.TheVariants.{Integer, Float, Definition}
use Rattle.values.specs.Fold.{folding_unary, folding_binary, fold_word, fits_imm32}
use Rattle.values.specs.Values.{Values, Expression, empty, value_of, lowest_slot, representative, store, learn, expression_in}

-- an instruction as it becomes, and the table after it
pub record Numbered : Type 0 where
  pub instruction : Instruction
  pub table : Values

abbrev pub set_a : Instruction → ℕ → Instruction
set_a i s = record { op = i.op; flags = i.flags; a = s; b = i.b; c = i.c }

abbrev pub set_b : Instruction → ℕ → Instruction
set_b i s = record { op = i.op; flags = i.flags; a = i.a; b = s; c = i.c }

abbrev pub set_bc : Instruction → ℕ → ℕ → Instruction
set_bc i s t = record { op = i.op; flags = i.flags; a = i.a; b = s; c = t }

-- "LoadConst": the value of a constant; none of "a String or a missing constant"
unfoldable pub constant_atom : Option Constant → Option Atom
constant_atom (Some Nil) = Some (Integer 0)
constant_atom (Some (BoolConstant v)) = Some (Integer v)
constant_atom (Some (Int v)) = Some (Integer v)
constant_atom (Some (FloatConstant v)) = Some (Float v)
constant_atom (Some String) = None
constant_atom None = None

-- the known integer that an expression folds to
unfoldable pub fold_unary : Expression → Atom → Option ℕ
fold_unary e (Integer x) = cond (is_in e.opcode folding_unary) (Some (fold_word e.opcode e.flags x 0)) None
fold_unary e (Float x) = None
fold_unary e (Definition p s) = None

unfoldable pub fold_binary : Expression → Atom → Atom → Option ℕ
fold_binary e (Integer x) (Integer y) = cond (is_in e.opcode folding_binary) (Some (fold_word e.opcode e.flags x y)) None
fold_binary e (Integer x) (Float y) = None
fold_binary e (Integer x) (Definition q t) = None
fold_binary e (Float x) y = None
fold_binary e (Definition p s) y = None

-- What becomes of an instruction with a folded value that does not fit 32 bits: a walk is told by which rule.
abbrev pub Rule : Type 0
Rule = Instruction → Values → ℕ → Instruction

-- document 01: "otherwise the instruction stays"
abbrev pub stays : Rule
stays i t v = i

module _ (S : Sections) where
  -- "scalar": a slot of type Value or Float
  abbrev pub is_scalar : ℕ → Bool
  is_scalar s = slice_index_or S.types s 1 == type_value || slice_index_or S.types s 1 == type_float

  -- a store of a known value: the instruction and the value of its destination
  unfoldable pub stored : Instruction → Values → Atom → Numbered
  stored i t v = record { instruction = i; table = store t i.a v }

  -- "An equal expression .. becomes Copy from" the lowest slot that holds the value, "the type being the destination's; otherwise it
  -- stays, with the same value"
  unfoldable pub copy_or_stay : Instruction → Option ℕ → Instruction
  copy_or_stay i (Some r) = plain op.Copy i.a r 0
  copy_or_stay i None = i

  unfoldable pub copied : Instruction → Values → Atom → Instruction
  copied i t v = copy_or_stay i (lowest_slot S.types t v (slice_index S.types i.a))

  unfoldable pub by_expression : ℕ → Instruction → Values → Expression → Option Atom → Numbered
  by_expression p i t e (Some v) = stored (copied i t v) t v
  by_expression p i t e None = stored i (learn t e (Definition p i.a)) (Definition p i.a)

  unfoldable pub number_copy : Instruction → Values → Numbered
  number_copy i t = stored (set_b i (representative S.types t i.b)) t (value_of t i.b)

  unfoldable pub number_constant : Instruction → Values → Option Atom → Numbered
  number_constant i t (Some v) = stored i t v
  number_constant i t None = record { instruction = i; table = empty }

  -- an operand a that is read: of "an undecided conditional jump on a scalar and of a one-scalar Return"
  unfoldable pub number_read : Instruction → Values → Numbered
  number_read i t = record { instruction = set_a i (representative S.types t i.a); table = t }

  -- "JumpIf and JumpIfNot on a known integer become Jump or plain Hint"
  unfoldable pub decided : Instruction → Bool → Instruction
  decided i taken = cond taken (plain op.Jump 0 i.b i.c) (plain op.Hint 0 0 0)

  unfoldable pub number_jump : (ℕ → Bool) → Instruction → Values → Atom → Numbered
  number_jump takes i t (Integer v) = record { instruction = decided i (takes v); table = t }
  number_jump takes i t (Float v) = cond (is_scalar i.a) (number_read i t) (record { instruction = i; table = t })
  number_jump takes i t (Definition p s) = cond (is_scalar i.a) (number_read i t) (record { instruction = i; table = t })

  abbrev pub cleared : Instruction → Numbered
  cleared i = record { instruction = i; table = empty }

  module _ (wide : Rule) where
    -- "A folded result becomes LoadInt exactly if its signed reading fits 32 bits", and by the rule otherwise
    unfoldable pub folded : Instruction → Values → ℕ → Instruction
    folded i t v = cond (fits_imm32 v) (with_imm32 (plain op.LoadInt i.a 0 0) (v % 2 ^ 32)) (wide i t v)

    -- folded, or looked up
    unfoldable pub by_value_with : ℕ → Instruction → Values → Expression → Option ℕ → Numbered
    by_value_with p i t e (Some v) = stored (folded i t v) t (Integer v)
    by_value_with p i t e None = by_expression p i t e (expression_in t.expressions e)

    -- "Operands of .. unary and binary opcodes .. become" the slots that stand for them
    unfoldable pub number_unary_with : ℕ → Instruction → Values → Numbered
    number_unary_with p i t =
        let e : Expression = record { opcode = i.op; flags = i.flags; left = value_of t i.b; right = Integer 0 } in
        by_value_with p (set_b i (representative S.types t i.b)) t e (fold_unary e e.left)

    unfoldable pub number_binary_with : ℕ → Instruction → Values → Numbered
    number_binary_with p i t =
        let e : Expression = record { opcode = i.op; flags = i.flags; left = value_of t i.b; right = value_of t i.c } in
        by_value_with p (set_bc i (representative S.types t i.b) (representative S.types t i.c)) t e (fold_binary e e.left e.right)

    -- "CopyN, a non-scalar destination, LoadConst of a String or a missing constant, and every impure opcode clear all values, except
    -- JumpIf, JumpIfNot, and a Return of one scalar."
    unfoldable pub number_by_with : Class → ℕ → Instruction → Values → Numbered
    number_by_with Hint p i t = cleared i
    number_by_with LoadInt p i t = let r = stored i t (Integer (imm32 i)) in cond (is_scalar i.a) r (cleared i)
    number_by_with LoadConst p i t =
        let r = number_constant i t (constant_atom (constant_at S.constants i.b)) in cond (is_scalar i.a) r (cleared i)
    number_by_with Copy p i t = let r = number_copy i t in cond (is_scalar i.a) r (cleared i)
    number_by_with CopyN p i t = cleared i
    number_by_with Unary p i t = let r = number_unary_with p i t in cond (is_scalar i.a) r (cleared i)
    number_by_with Binary p i t = let r = number_binary_with p i t in cond (is_scalar i.a) r (cleared i)
    number_by_with Jump p i t = cleared i
    number_by_with JumpIf p i t = number_jump (λ v. not (v == 0)) i t (value_of t i.a)
    number_by_with JumpIfNot p i t = number_jump (λ v. nat_eq v 0) i t (value_of t i.a)
    number_by_with ForLoop p i t = cleared i
    number_by_with Return p i t = let r = number_read i t in cond (i.b == 1 && is_scalar i.a) r (cleared i)
    number_by_with Panic p i t = cleared i
    number_by_with Outside p i t = cleared i
    number_by_with Invalid p i t = cleared i

    abbrev pub number_with : ℕ → Instruction → Values → Numbered
    number_with p i t = number_by_with (class i) p i t

    -- the code rewritten from place p on, the table being cleared where a block starts
    unfoldable pub number_from_with : List ℕ → ℕ → Values → List Cell → List Cell
    number_from_with leaders p t [] = []
    number_from_with leaders p t (x ∷ xs) =
        let r = number_with p x.instruction (cond (slice_index leaders p == 1) empty t) in
        record { instruction = r.instruction; metadata = x.metadata } ∷ number_from_with leaders (suc p) r.table xs

    unfoldable pub number_code_with : List ℕ → List Cell → List Cell
    number_code_with leaders cells = number_from_with leaders 0 empty cells

  -- Document 02, L2: "LoadInt if it fits; else Copy from the slot of L1 that holds the same known integer in the same type; else the
  -- instruction stays"
  abbrev pub held_or_stays : Rule
  held_or_stays i t v = copied i t (Integer v)

  abbrev pub by_value : ℕ → Instruction → Values → Expression → Option ℕ → Numbered
  by_value = by_value_with held_or_stays

  abbrev pub number_unary : ℕ → Instruction → Values → Numbered
  number_unary = number_unary_with held_or_stays

  abbrev pub number_binary : ℕ → Instruction → Values → Numbered
  number_binary = number_binary_with held_or_stays

  abbrev pub number_by : Class → ℕ → Instruction → Values → Numbered
  number_by = number_by_with held_or_stays

  abbrev pub number : ℕ → Instruction → Values → Numbered
  number = number_with held_or_stays

  abbrev pub number_from : List ℕ → ℕ → Values → List Cell → List Cell
  number_from = number_from_with held_or_stays

  abbrev pub number_code : List ℕ → List Cell → List Cell
  number_code = number_code_with held_or_stays
