-- Loads, copies and operators: they write slot a, and of single slots they read b and c at most. Most code is made of them, and its
-- operands are checked by comparisons alone.
-- Assumes nothing.
use Rattle.std.specs.Prelude.{◌≡◌, refl, true, false, not, [], ◌∷◌, ◌++◌, ℕ, ◌≤◌, ◌<◌, ltb}
use Rattle.std.proofs.Common.{sym, ◌∙◌, arith, lt-ltb}
use Rattle.std.proofs.Math.Bool.{and-true, and_assoc, or-true}
use Prim.{tt}
use Rattle.instruction.specs.Opcode as op
use Rattle.instruction.specs.Class.{number_of, named_class}
use Rattle.instruction.specs.laws.Class.{Each, by_number}
use Rattle.instruction.specs.Instruction.{class}
use Rattle.instruction.specs.laws.Instruction.{Fields}
use Rattle.instruction.specs.declared.Instruction.{Instruction}
use Rattle.instruction.specs.declared.Class.{Class}
use Rattle.instruction.specs.declared.Class.TheVariants.{LoadInt, LoadConst, Copy, Unary, Binary}
use Rattle.unit.specs.Refusal.{slot_outside}
use Rattle.effects.specs.Shape.{Tables, Cell}
use Rattle.effects.specs.Effects.{all_reads, writes, all_of}
use Rattle.effects.specs.Check.{operand_refusal}
use Rattle.effects.specs.laws.Operands.{slots, range_holds, holds_one, not_refused, refused_within}
use Rattle.effects.specs.laws.ByClass.{is_outside, reads_by_class, writes_by_class, inside_valid}
use Rattle.effects.proofs.laws.ByClass.{reads_by_class_lem, writes_by_class_lem, demands_by_class}
use Rattle.effects.specs.laws.Single.{is_single, reads_first, reads_second}
use Rattle.effects.specs.laws.Single.{single_within}

-- what holds of each of these classes, holds of one of them
pub by_single : (P : Class → Type 0) → P LoadInt → P LoadConst → P Copy → P Unary → P Binary → (k : Class) → is_single k ≡ true → P k
unfolding Each named_class
by_single P i n c u b = by_number P (1 ∷ 2 ∷ 3 ∷ 5 ∷ 6 ∷ []) (i, (n, (c, (u, (b, tt)))))

pub single_inside : (k : Class) → is_single k ≡ true → is_outside k ≡ false
unfolding is_outside
single_inside = by_single (λ k. is_outside k ≡ false) refl refl refl refl refl

module _ (T : Tables) (x : Cell) (e : is_single (class x.instruction) ≡ true) (f : Fields x.instruction) where
  abbrev i : Instruction
  i = x.instruction

  inside : is_outside (class i) ≡ false
  inside = single_inside (class i) e

  module _ (s : ℕ) (few : s ≤ slots) where
    one : (t : ℕ) → t < slots → range_holds s (record { start = t; count = 1 }) ≡ ltb t s
    one t h = holds_one s t h few

    holds_by : (k : Class) → is_single k ≡ true → all_of (range_holds s) (reads_by_class k i ++ writes_by_class k i) ≡ single_within s k i
    unfolding all_of number_of reads_by_class writes_by_class
    holds_by =
        by_single (λ k. all_of (range_holds s) (reads_by_class k i ++ writes_by_class k i) ≡ single_within s k i)
        (rw (one i.a f.a_fits, and-true))
        (rw (one i.a f.a_fits, and-true))
        (rw (one i.b f.b_fits, one i.a f.a_fits, and-true (ltb i.a s), and-true (ltb i.b s)))
        (rw (one i.b f.b_fits, one i.a f.a_fits, and-true (ltb i.a s), and-true (ltb i.b s)))
        (rw (one i.b f.b_fits, one i.c f.c_fits, one i.a f.a_fits, and-true (ltb i.a s)) (sym (and_assoc (ltb i.b s) (ltb i.c s) (ltb i.a s))))

    single_holds : all_of (range_holds s) (all_reads T x ++ writes T x) ≡ single_within s (class i) i
    single_holds = rw (reads_by_class_lem T x inside, writes_by_class_lem T x inside) (holds_by (class i) e)

  valid : i.op ≤ op.max_valid
  valid = omega (arith, inside_valid i.op inside)

  module _ (s : ℕ) (few : s ≤ slots) where
    pub single_passes : single_within s (class i) i ≡ true → operand_refusal s T x ≡ 0
    single_passes q = not_refused T x s valid (demands_by_class T x inside) (single_holds s few ∙ q)

    pub single_outside : single_within s (class i) i ≡ false → operand_refusal s T x ≡ slot_outside
    single_outside q = refused_within T x s valid (demands_by_class T x inside) (single_holds s few ∙ q) (single_holds slots (omega arith) ∙ all)
      where
        all : single_within slots (class i) i ≡ true
        all = rw (lt-ltb i.a slots f.a_fits, lt-ltb i.b slots f.b_fits, lt-ltb i.c slots f.c_fits, or-true (not (reads_first (class i))), or-true (not (reads_second (class i))))
