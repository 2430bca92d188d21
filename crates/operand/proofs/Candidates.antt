-- The candidates of sums and of the bitwise opcodes.
-- Assumes nothing.
use Rattle.std.proofs.Common.{◌≡◌, ℕ, ◌+◌, ◌-◌, ◌%◌, ◌^◌, ◌<◌, ◌≤◌, sym, ◌∙◌, arith}
use lib.Bits.{bit_xor}
use Rattle.instruction.specs.Opcode as op
use Rattle.values.specs.Fold.{fold_word, bit_word}
use Rattle.values.specs.laws.Bitwise.{xor_bits}
use Rattle.operand.specs.laws.Candidate.{Candidate}
use Rattle.operand.proofs.Bits.{and_left, and_right, and_again, or_left, or_most, or_rest, xor_back, not_least, not_rest}

module _ (l w : ℕ) {c : ℕ} (left : l < 2 ^ 64) (fits : c < 2 ^ 64) where
  pub add_candidate : (c + l) % 2 ^ 64 ≡ w → Candidate (fold_word op.AddI 0 l) w c
  unfolding fold_word
  add_candidate is r h e = let same : c ≡ r = omega arith in (omega arith, rw same e)

  pub sub_candidate : (c + w) % 2 ^ 64 ≡ l → Candidate (fold_word op.SubI 0 l) w c
  unfolding fold_word
  sub_candidate is r h e = let same : c ≡ r = omega arith in (omega arith, rw same e)

  pub or_candidate : (c + l) % 2 ^ 64 ≡ w → Candidate (fold_word op.Or 0 l) w c
  unfolding fold_word bit_word
  or_candidate is r h e =
      let more : l ≤ w = rw e at (or_left 64 l r left) in
      let most : w ≤ l + r = rw e at (or_most 64 l r) in
      let rest : c ≡ w - l = omega arith in
      (omega arith, rw rest (rw e at (or_rest 64 l r left)))

  pub and_not_candidate : (c + w) % 2 ^ 64 ≡ l → Candidate (fold_word op.AndNot 0 l) w c
  unfolding fold_word bit_word
  and_not_candidate is r h e =
      let not-r = (2 ^ 64 - 1) - r in
      let less : w ≤ l = rw e at (and_left 64 l not-r) in
      let least : l + not-r < w + 2 ^ 64 = rw e at (not_least 64 l not-r left (omega arith)) in
      let rest : c ≡ l - w = omega arith in
      (omega arith, rw rest (rw e at (not_rest 64 l not-r left)))

pub and_candidate : (l w : ℕ) → Candidate (fold_word op.And 0 l) w w
unfolding fold_word bit_word
and_candidate l w r h e = (rw e at (and_right 64 l r), rw e at (and_again 64 l r))

pub xor_candidate : (l w : ℕ) → l < 2 ^ 64 → w < 2 ^ 64 → Candidate (fold_word op.Xor 0 l) w (bit_xor l w)
unfolding fold_word bit_word
xor_candidate l w left fits r h e =
    let same : bit_xor l w ≡ r = sym (xor_bits left fits) ∙ (rw e at (xor_back 64 l r h)) in
    (omega arith, rw same e)
