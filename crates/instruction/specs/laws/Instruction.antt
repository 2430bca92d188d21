-- Laws of Instruction.
-- Assumes nothing.
use Rattle.std.specs.Prelude.{◌≡◌, refl, ℕ, ◌+◌, ◌*◌, ◌/◌, ◌%◌, ◌^◌, ◌<◌}
use Rattle.std.proofs.Common.{sym, arith}
use Rattle.std.proofs.Math.Nat.{div-div-eq-div-mul}
use Rattle.instruction.specs.declared.Instruction.{Instruction}
use Rattle.instruction.specs.Instruction.{of_word, to_word}

-- every field fits its width
pub record Fields (i : Instruction) : Type 0 where
  pub op_fits : i.op < 256
  pub flags_fits : i.flags < 256
  pub a_fits : i.a < 65536
  pub b_fits : i.b < 65536
  pub c_fits : i.c < 65536

-- those of a word do
pub word_fields : (w : ℕ) → Fields (of_word w)
unfolding of_word
word_fields w = record { op_fits = omega arith; flags_fits = omega arith; a_fits = omega arith; b_fits = omega arith; c_fits = omega arith }

-- the digits of an instruction's word are its fields
record Digits (i : Instruction) : Type 0 where
  op_digit : to_word i % 256 ≡ i.op
  flags_digit : to_word i / 256 % 256 ≡ i.flags
  a_digit : to_word i / 65536 % 65536 ≡ i.a
  b_digit : to_word i / 2 ^ 32 % 65536 ≡ i.b
  c_digit : to_word i / 2 ^ 48 % 65536 ≡ i.c

digits_of : (i : Instruction) → Fields i → Digits i
unfolding to_word
digits_of i f =
    let q1 : to_word i / 256 ≡ i.flags + 256 * i.a + 2 ^ 24 * i.b + 2 ^ 40 * i.c = omega arith in
    let q2 : to_word i / 65536 ≡ i.a + 65536 * i.b + 2 ^ 32 * i.c = omega arith in
    let q3 : to_word i / 2 ^ 32 ≡ i.b + 65536 * i.c = omega arith in
    let q4 : to_word i / 2 ^ 48 ≡ i.c = omega arith in
    record {
      op_digit = omega arith;
      flags_digit = rw q1 (omega arith);
      a_digit = rw q2 (omega arith);
      b_digit = rw q3 (omega arith);
      c_digit = rw q4 (omega arith);
    }

-- an instruction and its word are the same information
pub of_to : (i : Instruction) → Fields i → of_word (to_word i) ≡ i
unfolding of_word
of_to i f =
    let d : Digits i = digits_of i f in
    rw (d.op_digit, d.flags_digit, d.a_digit, d.b_digit, d.c_digit)

pub to_of : (w : ℕ) → w < 2 ^ 64 → to_word (of_word w) ≡ w
unfolding of_word to_word
to_of w h = digits w (w / 256) (w / 65536) (w / 2 ^ 32) (w / 2 ^ 48) refl (sym (div-div-eq-div-mul w 256 256)) (sym (div-div-eq-div-mul w 65536 65536)) (sym (div-div-eq-div-mul w (2 ^ 32) 65536)) h
  where
    digits : (w p q r s : ℕ) → p ≡ w / 256 → q ≡ p / 256 → r ≡ q / 65536 → s ≡ r / 65536 → w < 2 ^ 64
        → w % 256 + 256 * (p % 256) + 65536 * (q % 65536) + 2 ^ 32 * (r % 65536) + 2 ^ 48 * (s % 65536) ≡ w
    digits w p q r s e1 e2 e3 e4 h = omega arith

pub to_word_fits : (i : Instruction) → Fields i → to_word i < 2 ^ 64
unfolding to_word
to_word_fits i f = omega arith
