-- What is due at an instruction, by the place that it goes to and the frame after it.
-- Assumes nothing.
use Rattle.std.specs.Prelude.{Option, Some, None, ◌≡◌, ℕ, suc, ◌+◌, ◌%◌, ◌^◌, ◌≤◌, Bool, true, false, cond, not, ◌||◌, List, [], ◌∷◌, ◌==◌, slice_index, slice_set}
use Rattle.std.proofs.Math.Path.{refl}
use Rattle.std.proofs.Common.{sym, ap, ◌∙◌, true≢false, arith, lt-ltb}
use Rattle.std.proofs.Math.Decide.{dec_le}
use borrow.Rule.Slice.PartMut.{mid_of, put_mid}
use Rattle.words.specs.Lists.{is_in, every}
use Rattle.words.specs.laws.Lists.{every_at}
use Rattle.instruction.specs.declared.Instruction.{Instruction}
use Rattle.instruction.specs.declared.Class.{Class}
use Rattle.instruction.specs.declared.Class.TheVariants.{Hint, LoadInt, LoadConst, Copy, CopyN, Unary, Binary, Jump, JumpIf, JumpIfNot, ForLoop, Return, Panic, Outside, Invalid}
use Rattle.instruction.specs.Class.{class_of, single}
use Rattle.instruction.specs.Opcode as op
use Rattle.instruction.specs.Instruction.{imm32, class}
use Rattle.unit.specs.declared.Constant.{Constant}
use Rattle.unit.specs.declared.Constant.TheVariants.{Nil, Bool as BoolConstant, Int, Float, String}
use Rattle.unit.specs.Entry.{constant_at}
use Rattle.flow.specs.Branch.{target_by}
use Rattle.values.specs.Fold.{fold_word, folding_unary, folding_binary}
use Rattle.values.specs.laws.Named.{Named}
use Rattle.desk.specs.Desk.{Due, goes, not_executed, loads, due_by}
use Rattle.desk.specs.laws.Stands.{is_executed}
use Rattle.desk.specs.laws.Execution.{Executable, frame_after, goes_to, has_word}

pub loads_executed : (p a : ℕ) (f : List ℕ) (c : Option Constant) → has_word c ≡ is_executed (loads p f a c)
unfolding has_word loads is_executed
loads_executed p a f (Some Nil) = refl
loads_executed p a f (Some (BoolConstant v)) = refl
loads_executed p a f (Some (Int v)) = refl
loads_executed p a f (Some (Float v)) = refl
loads_executed p a f (Some String) = refl
loads_executed p a f None = refl

pub cond_executed : (t : Bool) (q : ℕ) (g : List ℕ) → t ≡ is_executed (cond t (goes q g) not_executed)
unfolding is_executed
cond_executed true q g = refl
cond_executed false q g = refl

-- ---- the opcodes that go on, and the others

-- those that `execution::execute` has a case for
unfoldable pub going : List ℕ
going =
    op.Hint ∷ op.LoadInt ∷ op.LoadConst ∷ op.Copy ∷ op.CopyN ∷ op.Jump ∷ op.JumpIf ∷ op.JumpIfNot ∷ op.NegI ∷ op.Not ∷ op.BoolNot ∷ op.Trunc
    ∷ op.AddI ∷ op.SubI ∷ op.MulI ∷ op.EqI ∷ op.NeI ∷ op.LtI ∷ op.LtU ∷ op.LeI ∷ op.LeU ∷ op.GtI ∷ op.GtU ∷ op.GeI ∷ op.GeU ∷ op.And ∷ op.Or ∷ op.Xor ∷ op.AndNot ∷ []

-- an opcode of the class goes nowhere
unfoldable pub stays_by : ℕ → Class → Bool
stays_by o Hint = false
stays_by o LoadInt = false
stays_by o LoadConst = false
stays_by o Copy = false
stays_by o CopyN = false
stays_by o Unary = not (is_in o folding_unary)
stays_by o Binary = not (is_in o folding_binary)
stays_by o Jump = false
stays_by o JumpIf = false
stays_by o JumpIfNot = false
stays_by o ForLoop = true
stays_by o Return = true
stays_by o Panic = true
stays_by o Outside = true
stays_by o Invalid = true

-- the valid opcodes, one by one
table : every 136 (λ o. is_in o going || stays_by o (class_of o)) ≡ true
unfolding every going stays_by class_of single
table = refl

pub stays : (o : ℕ) → is_in o going ≡ false → stays_by o (class_of o) ≡ true
unfolding class_of stays_by
stays o e = elim (dec_le 136 o) [
  | yes h ↦ invalid o h
  | no h ↦ rw e at (every_at 136 (λ o. is_in o going || stays_by o (class_of o)) table o (omega arith))
]
  where
    invalid : (o : ℕ) → 136 ≤ o → stays_by o (class_of o) ≡ true
    invalid o h = rw (lt-ltb op.max_valid o (omega arith))

stays_not : (t : Bool) → not t ≡ true → t ≡ false
stays_not true e = sym e
stays_not false e = refl

-- ---- by the number of the opcode

-- what was done is what was due
abbrev pub Does : List ℕ → Due → ℕ → List ℕ → Type 0
Does f d q g = (q ≡ goes_to d) × (g ≡ frame_after f d)

-- an instruction that was read, and its opcode
pub executable_same : {s p : ℕ} (i j : Instruction) → i ≡ j → Executable s p j → Executable s p i
executable_same i j e x = rw e x

pub named_as : (k : Class) (o s : ℕ) (i : Instruction) → i.op ≡ o → class_of o ≡ k → Named (class i) s i → Named k s i
named_as k o s i e c h = let is : class i ≡ k = ap class_of e ∙ c in rw is at h

pub class_as : (k : Class) (o : ℕ) (i : Instruction) → i.op ≡ o → class_of o ≡ k → class i ≡ k
class_as k o i e c = ap class_of e ∙ c

module _ (constants : List ℕ) (p : ℕ) (f : List ℕ) {i j : Instruction} (same : i ≡ j) where
  abbrev due : Due
  due = due_by constants (class j) p j f

  by_class : (k : Class) (o : ℕ) → i.op ≡ o → class_of o ≡ k → due ≡ due_by constants k p i f
  by_class k o e c = rw (← same) (let is : class i ≡ k = class_as k o i e c in rw is)

  does_goes : (k : Class) (o q : ℕ) (g : List ℕ) (r : ℕ) (h : List ℕ) → i.op ≡ o → class_of o ≡ k → due_by constants k p i f ≡ goes q g → r ≡ q → h ≡ g → Does f due r h
  unfolding goes_to frame_after
  does_goes k o q g r h e c d t l = rw (by_class k o e c, d) (t, l)

  pub does_hint : (r : ℕ) → i.op ≡ op.Hint → r ≡ suc p → Does f due r f
  unfolding due_by class_of single
  does_hint r e t = does_goes Hint op.Hint (suc p) f r f e refl refl t refl

  pub does_load_int : (r : ℕ) (h : List ℕ) → i.op ≡ op.LoadInt → (r ≡ suc p) × (h ≡ slice_set f i.a (imm32 i)) → Does f due r h
  unfolding due_by class_of single
  does_load_int r h e d = does_goes LoadInt op.LoadInt _ _ r h e refl refl d.0 d.1

  pub does_load : (r : ℕ) (h : List ℕ) → i.op ≡ op.LoadConst → Does f (loads p f i.a (constant_at constants i.b)) r h → Does f due r h
  unfolding due_by class_of single
  does_load r h e d = rw (by_class LoadConst op.LoadConst e refl) d

  pub does_copy : (r : ℕ) (h : List ℕ) → i.op ≡ op.Copy → (r ≡ suc p) × (h ≡ slice_set f i.a (slice_index f i.b)) → Does f due r h
  unfolding due_by class_of single
  does_copy r h e d = does_goes Copy op.Copy _ _ r h e refl refl d.0 d.1

  pub does_copy_n : (r : ℕ) (h : List ℕ) → i.op ≡ op.CopyN → r ≡ suc p → h ≡ put_mid i.a i.c f (mid_of i.b i.c f) → Does f due r h
  unfolding due_by class_of single
  does_copy_n r h e t l = does_goes CopyN op.CopyN _ _ r h e refl refl t l

  pub does_jump : (r : ℕ) → i.op ≡ op.Jump → r ≡ (p + imm32 i) % 2 ^ 64 → Does f due r f
  unfolding due_by class_of single target_by
  does_jump r e t = does_goes Jump op.Jump _ f r f e refl refl t refl

  pub does_jump_if : (r : ℕ) → i.op ≡ op.JumpIf → r ≡ cond (not (slice_index f i.a == 0)) ((p + imm32 i) % 2 ^ 64) (suc p) → Does f due r f
  unfolding due_by class_of single target_by
  does_jump_if r e t = does_goes JumpIf op.JumpIf _ f r f e refl refl t refl

  pub does_jump_if_not : (r : ℕ) → i.op ≡ op.JumpIfNot → r ≡ cond (slice_index f i.a == 0) ((p + imm32 i) % 2 ^ 64) (suc p) → Does f due r f
  unfolding due_by class_of single target_by
  does_jump_if_not r e t = does_goes JumpIfNot op.JumpIfNot _ f r f e refl refl t refl

  pub does_unary : (o r : ℕ) (h : List ℕ) → class_of o ≡ Unary → is_in o folding_unary ≡ true → i.op ≡ o → (r ≡ suc p) × (h ≡ slice_set f i.a (fold_word o i.flags (slice_index f i.b) 0)) → Does f due r h
  unfolding due_by
  does_unary o r h c n e d = does_goes Unary o _ _ r h e c (rw (e, n)) d.0 d.1

  pub does_binary : (o r : ℕ) (h : List ℕ) → class_of o ≡ Binary → is_in o folding_binary ≡ true → i.op ≡ o
      → (r ≡ suc p) × (h ≡ slice_set f i.a (fold_word o i.flags (slice_index f i.b) (slice_index f i.c))) → Does f due r h
  unfolding due_by
  does_binary o r h c n e d = does_goes Binary o _ _ r h e c (rw (e, n)) d.0 d.1

  -- any other opcode goes nowhere
  stays_due : (k : Class) → stays_by j.op k ≡ true → Does f (due_by constants k p j f) (2 ^ 32) f
  unfolding stays_by due_by goes_to frame_after
  stays_due Hint e = absurd (true≢false (sym e))
  stays_due LoadInt e = absurd (true≢false (sym e))
  stays_due LoadConst e = absurd (true≢false (sym e))
  stays_due Copy e = absurd (true≢false (sym e))
  stays_due CopyN e = absurd (true≢false (sym e))
  stays_due Unary e = rw (stays_not (is_in j.op folding_unary) e) (refl, refl)
  stays_due Binary e = rw (stays_not (is_in j.op folding_binary) e) (refl, refl)
  stays_due Jump e = absurd (true≢false (sym e))
  stays_due JumpIf e = absurd (true≢false (sym e))
  stays_due JumpIfNot e = absurd (true≢false (sym e))
  stays_due ForLoop e = (refl, refl)
  stays_due Return e = (refl, refl)
  stays_due Panic e = (refl, refl)
  stays_due Outside e = (refl, refl)
  stays_due Invalid e = (refl, refl)

  pub does_nothing : is_in i.op going ≡ false → Does f due (2 ^ 32) f
  does_nothing e = stays_due (class j) (rw same at (stays i.op e))
