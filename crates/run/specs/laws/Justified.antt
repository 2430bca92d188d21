-- Justified rewriting: which instruction may stand for another, by a table of values, and that it then does the same. It is stated
-- apart from how a pass finds such instructions.
-- Assumes nothing.
use Rattle.std.proofs.Math.Path.{◌≡◌}
use Rattle.std.specs.Prelude.{Some, ◌⊎◌, ℕ, ◌%◌, ◌^◌, ◌<◌, eqb}
use Rattle.std.proofs.Math.Bool.{true, false}
use Rattle.words.specs.Lists.{is_in}
use Rattle.instruction.specs.Opcode as op
use Rattle.instruction.specs.declared.Instruction.{Instruction}
use Rattle.instruction.specs.declared.Class.TheVariants.{LoadInt, LoadConst, Copy, Unary, Binary, JumpIf, JumpIfNot, Return}
use Rattle.instruction.specs.Instruction.{imm32, plain, with_imm32, class}
use Rattle.unit.specs.Entry.{constant_at}
use Rattle.effects.specs.Shape.{Sections}
use Rattle.values.specs.declared.Atom.{Atom}
use Rattle.values.specs.declared.Atom.TheVariants.{Integer}
use Rattle.values.specs.Fold.{fold_word, folding_unary, folding_binary, fits_imm32}
use Rattle.values.specs.Values.{Values, Expression, value_of, expression_in}
use Rattle.values.specs.Number.{set_a, set_b, set_bc, constant_atom}
use Rattle.effects.specs.laws.Single.{is_single}

-- the expression of a unary and of a binary instruction, by the values of its operands
abbrev pub unary_expression : Instruction → Atom → Expression
unary_expression i v = record { opcode = i.op; flags = i.flags; left = v; right = Integer 0 }

abbrev pub binary_expression : Instruction → Atom → Atom → Expression
binary_expression i v w = record { opcode = i.op; flags = i.flags; left = v; right = w }

-- The value that an instruction gives its destination, as far as a table of values tells.
pub data Stores (S : Sections) (t : Values) (i : Instruction) : Atom → Type 0 where
  loads : class i ≡ LoadInt → Stores S t i (Integer (imm32 i))
  constant : {v : Atom} → class i ≡ LoadConst → constant_atom (constant_at S.constants i.b) ≡ Some v → Stores S t i v
  copies : class i ≡ Copy → Stores S t i (value_of t i.b)
  folds_one : {x : ℕ} → class i ≡ Unary → is_in i.op folding_unary ≡ true → value_of t i.b ≡ Integer x → Stores S t i (Integer (fold_word i.op i.flags x 0))
  folds_two : {x y : ℕ} → class i ≡ Binary → is_in i.op folding_binary ≡ true → value_of t i.b ≡ Integer x → value_of t i.c ≡ Integer y
      → Stores S t i (Integer (fold_word i.op i.flags x y))
  equals_one : {v : Atom} → class i ≡ Unary → expression_in t.expressions (unary_expression i (value_of t i.b)) ≡ Some v → Stores S t i v
  equals_two : {v : Atom} → class i ≡ Binary → expression_in t.expressions (binary_expression i (value_of t i.b) (value_of t i.c)) ≡ Some v → Stores S t i v

-- What may stand for instruction i where the table is true.
pub data Justified (S : Sections) (t : Values) (i : Instruction) : Instruction → Type 0 where
  -- the same
  stays : Justified S t i i
  -- operands replaced by slots of the same value
  operand : {r : ℕ} → (class i ≡ Copy) ⊎ (class i ≡ Unary) → value_of t r ≡ value_of t i.b → r < S.locals → Justified S t i (set_b i r)
  operands : {q r : ℕ} → class i ≡ Binary → value_of t q ≡ value_of t i.b → value_of t r ≡ value_of t i.c → q < S.locals → r < S.locals
      → Justified S t i (set_bc i q r)
  tested : {r : ℕ} → (class i ≡ JumpIf) ⊎ (class i ≡ JumpIfNot) → value_of t r ≡ value_of t i.a → r < S.locals → Justified S t i (set_a i r)
  returned : {r : ℕ} → class i ≡ Return → i.b ≡ 1 → value_of t r ≡ value_of t i.a → r < S.locals → Justified S t i (set_a i r)
  -- LoadInt of the known integer, and Copy from a slot that holds the value
  loaded : {v : ℕ} → is_single (class i) ≡ true → Stores S t i (Integer v) → fits_imm32 v ≡ true → v < 2 ^ 64
      → Justified S t i (with_imm32 (plain op.LoadInt i.a 0 0) (v % 2 ^ 32))
  copied : {v : Atom} {r : ℕ} → is_single (class i) ≡ true → Stores S t i v → value_of t r ≡ v → r < S.locals → Justified S t i (plain op.Copy i.a r 0)
  -- Jump or plain Hint for a decided branch
  taken_if : {v : ℕ} → class i ≡ JumpIf → value_of t i.a ≡ Integer v → eqb v 0 ≡ false → Justified S t i (plain op.Jump 0 i.b i.c)
  taken_if_not : {v : ℕ} → class i ≡ JumpIfNot → value_of t i.a ≡ Integer v → eqb v 0 ≡ true → Justified S t i (plain op.Jump 0 i.b i.c)
  passed_if : {v : ℕ} → class i ≡ JumpIf → value_of t i.a ≡ Integer v → eqb v 0 ≡ true → Justified S t i (plain op.Hint 0 0 0)
  passed_if_not : {v : ℕ} → class i ≡ JumpIfNot → value_of t i.a ≡ Integer v → eqb v 0 ≡ false → Justified S t i (plain op.Hint 0 0 0)
