-- An instruction that is written is read back; the class of a hint and of a jump.
-- Assumes nothing.
use Rattle.std.specs.Prelude.{◌≡◌, refl, List, ◌++◌, ℕ, ◌+◌, ◌*◌, ◌/◌, ◌%◌, ◌^◌, length, get_or}
use Rattle.std.proofs.Common.{sym, ap, ◌∙◌, add-zero, arith}
use Rattle.std.proofs.Math.Nat.{div-div-eq-div-mul}
use Rattle.words.specs.laws.Inside.{get_inside, mid_inside}
use Rattle.words.specs.Le.{from_le, to_le}
use Rattle.words.specs.laws.Le.{length_to_le}
use Rattle.instruction.specs.Opcode as op
use Rattle.instruction.specs.declared.Class.TheVariants.{Hint, Jump}
use Rattle.instruction.specs.Class.{class_of, single}
use Rattle.instruction.specs.Instruction.{instruction_at, to_word, of_word, class}
use Rattle.instruction.specs.laws.Instruction.{of_to, Fields}
use Rattle.instruction.specs.declared.Instruction.{Instruction}

-- only the eight bytes of a place count
at_place : (a xs b : List ℕ) (k : ℕ) → length a ≡ 8 * k → length xs ≡ 8 → instruction_at (a ++ xs ++ b) k ≡ instruction_at xs 0
unfolding instruction_at
at_place a xs b k long eight =
    rw (
      ← long,
      ap (λ (n : ℕ). get_or (a ++ xs ++ b) n 0) (sym (add-zero (length a))) ∙ get_inside a xs b 0 0 (omega arith),
      get_inside a xs b 1 0 (omega arith),
      mid_inside a xs b 2 2 (omega arith),
      mid_inside a xs b 4 2 (omega arith),
      mid_inside a xs b 6 2 (omega arith),
    )

-- the fields of eight bytes are the digits of their number
of_bytes : (w : ℕ) → instruction_at (to_le 8 w) 0 ≡ of_word w
unfolding instruction_at of_word from_le to_le
of_bytes w =
    rw (
      pair (w / 256 / 256),
      div-div-eq-div-mul w 256 256,
      pair (w / 65536 / 256 / 256),
      div-div-eq-div-mul (w / 65536) 256 256,
      div-div-eq-div-mul w 65536 65536,
      pair (w / 2 ^ 32 / 256 / 256),
      div-div-eq-div-mul (w / 2 ^ 32) 256 256,
      div-div-eq-div-mul w (2 ^ 32) 65536,
    )
  where
    pair : (v : ℕ) → v % 256 + 256 * (v / 256 % 256 + 256 * 0) ≡ v % 65536
    pair v = digits v (v / 256) refl
      where
        digits : (v p : ℕ) → p ≡ v / 256 → v % 256 + 256 * (p % 256 + 256 * 0) ≡ v % 65536
        digits v p e = omega arith

pub read_back : (a b : List ℕ) (k : ℕ) (i : Instruction) → length a ≡ 8 * k → Fields i → instruction_at (a ++ to_le 8 (to_word i) ++ b) k ≡ i
read_back a b k i long f = at_place a (to_le 8 (to_word i)) b k long (length_to_le 8 (to_word i)) ∙ of_bytes (to_word i) ∙ of_to i f

pub hint_class : (i : Instruction) → i.op ≡ op.Hint → class i ≡ Hint
unfolding class_of single
hint_class i e = rw e

pub jump_class : (i : Instruction) → i.op ≡ op.Jump → class i ≡ Jump
unfolding class_of single
jump_class i e = rw e
