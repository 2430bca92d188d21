-- A folded value that does not fit 32 bits: where no slot holds it, document 02's rule is document 01's.
-- Assumes nothing.
use Rattle.std.specs.Prelude.{Option, None, Some, ◌≡◌, ℕ, suc, ◌%◌, ◌^◌, Bool, true, false, cond, List, [], ◌∷◌, ◌==◌, slice_index}
use Rattle.std.proofs.Math.Path.{refl, ap}
use Rattle.std.proofs.Common.{◌∙◌}
use Rattle.instruction.specs.Opcode as op
use Rattle.instruction.specs.declared.Instruction.{Instruction}
use Rattle.instruction.specs.declared.Class.{Class}
use Rattle.instruction.specs.declared.Class.TheVariants.{Hint, LoadInt, LoadConst, Copy, CopyN, Unary, Binary, Jump, JumpIf, JumpIfNot, ForLoop, Return, Panic, Outside, Invalid}
use Rattle.instruction.specs.Instruction.{plain, with_imm32, class}
use Rattle.effects.specs.Shape.{Sections, Cell}
use Rattle.values.specs.Fold.{fits_imm32}
use Rattle.values.specs.Values.{Values, Expression, empty, value_of, lowest_slot}
use Rattle.values.specs.Number.{Numbered, stays, held_or_stays, fold_unary, fold_binary, is_scalar, stored, cleared, copy_or_stay, copied, folded, by_value_with, number_unary_with, number_binary_with, number_by_with, number, number_from, number_from_with, number_code, number_code_with}
use Rattle.values.specs.laws.Folded.{expression_of}
use Rattle.values.specs.declared.Atom.TheVariants.{Integer}

-- the known integer that an instruction folds to
pub data Folds (t : Values) (i : Instruction) (v : ℕ) : Type 0 where
  one : class i ≡ Unary → fold_unary (expression_of i.op i.flags (value_of t i.b) (Integer 0)) (value_of t i.b) ≡ Some v → Folds t i v
  two : class i ≡ Binary → fold_binary (expression_of i.op i.flags (value_of t i.b) (value_of t i.c)) (value_of t i.b) (value_of t i.c) ≡ Some v → Folds t i v

module _ (S : Sections) where
  -- "a folded value outside 32 bits and such a slot": one of the destination's type that holds the same known integer
  pub record Meets (t : Values) (i : Instruction) : Type 0 where
    pub value : ℕ
    pub folds : Folds t i value
    pub wide : fits_imm32 value ≡ false
    pub slot : ℕ
    pub held : lowest_slot S.types t (Integer value) (slice_index S.types i.a) ≡ Some slot

  module _ (leaders : List ℕ) where
    -- the table that place p starts with
    abbrev entering : ℕ → Values → Values
    entering p t = cond (slice_index leaders p == 1) empty t

    -- no instruction from place p on meets one
    unfoldable pub NoneMeets : ℕ → Values → List Cell → Type 0
    NoneMeets p t [] = Unit {0}
    NoneMeets p t (x ∷ xs) = (Meets (entering p t) x.instruction → ⊥) × NoneMeets (suc p) (number S p x.instruction (entering p t)).table xs

  -- ---- one instruction

  module _ (t : Values) (i : Instruction) (p : ℕ) (apart : Meets t i → ⊥) where
    -- what stands for the instruction has its destination
    module _ (j : Instruction) (a= : j.a ≡ i.a) where
      folded_same : (v : ℕ) → Folds t i v → folded S (held_or_stays S) j t v ≡ folded S stays j t v
      unfolding folded copied copy_or_stay
      folded_same v f = go (fits_imm32 v) refl (lowest_slot S.types t (Integer v) (slice_index S.types j.a)) refl
        where
          go : (b : Bool) → fits_imm32 v ≡ b → (o : Option ℕ) → lowest_slot S.types t (Integer v) (slice_index S.types j.a) ≡ o
              → cond b (with_imm32 (plain op.LoadInt j.a 0 0) (v % 2 ^ 32)) (copy_or_stay S j o) ≡ cond b (with_imm32 (plain op.LoadInt j.a 0 0) (v % 2 ^ 32)) j
          go true e o q = refl
          go false e None q = refl
          go false e (Some r) q = absurd (apart (record { value = v; folds = f; wide = e; slot = r; held = rw a= at q }))

      value_same : (e : Expression) (o : Option ℕ) → ((v : ℕ) → o ≡ Some v → Folds t i v) → by_value_with S (held_or_stays S) p j t e o ≡ by_value_with S stays p j t e o
      unfolding by_value_with
      value_same e (Some v) f = ap (λ (x : Instruction). stored S x t (Integer v)) (folded_same v (f v refl))
      value_same e None f = refl

    scalar_same : (x y : Numbered) → x ≡ y → cond (is_scalar S i.a) x (cleared S i) ≡ cond (is_scalar S i.a) y (cleared S i)
    scalar_same x y e = rw e

    number_same : (k : Class) → class i ≡ k → number_by_with S (held_or_stays S) k p i t ≡ number_by_with S stays k p i t
    unfolding number_by_with number_unary_with number_binary_with
    number_same Hint e = refl
    number_same LoadInt e = refl
    number_same LoadConst e = refl
    number_same Copy e = refl
    number_same CopyN e = refl
    number_same Unary e = scalar_same _ _ (value_same _ refl _ _ (λ v q. one e q))
    number_same Binary e = scalar_same _ _ (value_same _ refl _ _ (λ v q. two e q))
    number_same Jump e = refl
    number_same JumpIf e = refl
    number_same JumpIfNot e = refl
    number_same ForLoop e = refl
    number_same Return e = refl
    number_same Panic e = refl
    number_same Outside e = refl
    number_same Invalid e = refl

  -- ---- the walk

  from_same : (leaders : List ℕ) (xs : List Cell) (p : ℕ) (t : Values) → NoneMeets leaders p t xs → number_from S leaders p t xs ≡ number_from_with S stays leaders p t xs
  unfolding NoneMeets number_from_with
  from_same leaders [] p t h = refl
  from_same leaders (x ∷ xs) p t h =
      let e = number_same (entering leaders p t) x.instruction p h.0 (class x.instruction) refl in
      let rest = from_same leaders xs (suc p) (number S p x.instruction (entering leaders p t)).table h.1 in
      ap (λ (l : List Cell). record { instruction = (number S p x.instruction (entering leaders p t)).instruction; metadata = x.metadata } ∷ l) rest
      ∙ ap (λ (r : Numbered). record { instruction = r.instruction; metadata = x.metadata } ∷ number_from_with S stays leaders (suc p) r.table xs) e

  -- "In one pass only functions with a folded value outside 32 bits and such a slot may get another answer": without, the numbered
  -- code, on which the pass goes on, is that of document 01's rule.
  pub apart_same : (leaders : List ℕ) (cells : List Cell) → NoneMeets leaders 0 empty cells → number_code S leaders cells ≡ number_code_with S stays leaders cells
  unfolding number_code_with
  apart_same leaders cells h = from_same leaders cells 0 empty h
