-- The bits of two words taken one by one are the operations of the machine.
-- Assumes nothing.
use Rattle.std.specs.Prelude.{◌≡◌, ℕ, zero, suc, ◌+◌, ◌*◌, ◌/◌, ◌%◌, ◌^◌, ◌<◌, min, max, bit_and, bit_or, bit_xor, refl}
use Rattle.std.proofs.Common.{sym, ap, ◌∙◌}
use Rattle.std.proofs.Math.Nat.{pow-suc}
use native.Mathlib.Omega.{arith}
use Rattle.std.specs.Int.Bits.{and_step, or_step, xor_step, differ as differs}
use Rattle.values.specs.Fold.{bitwise, differ, word_and, word_or, word_xor}

-- an operation on the lowest bits that goes on with the rest
module _ (f op : ℕ → ℕ → ℕ) (step : (x y : ℕ) → op x y ≡ op (x / 2) (y / 2) * 2 + f (x % 2) (y % 2)) (none : op 0 0 ≡ 0) where
  by_bits : (k x y : ℕ) → x < 2 ^ k → y < 2 ^ k → bitwise f k x y ≡ op x y
  unfolding bitwise
  by_bits zero x y h g =
      let p : x ≡ 0 = omega arith in
      let q : y ≡ 0 = omega arith in
      rw (p, q) (sym none)
  by_bits (suc k) x y h g =
      let h2 : x / 2 < 2 ^ k = let w : x < 2 ^ k * 2 = rw pow-suc at h in omega arith in
      let g2 : y / 2 < 2 ^ k = let w : y < 2 ^ k * 2 = rw pow-suc at g in omega arith in
      let rest : bitwise f k (x / 2) (y / 2) ≡ op (x / 2) (y / 2) = by_bits k (x / 2) (y / 2) h2 g2 in
      omega (arith, step x y)

pub and_bits : {x y : ℕ} → x < 2 ^ 64 → y < 2 ^ 64 → word_and x y ≡ bit_and x y
and_bits {x} {y} h g = by_bits min bit_and and_step refl 64 x y h g

pub or_bits : {x y : ℕ} → x < 2 ^ 64 → y < 2 ^ 64 → word_or x y ≡ bit_or x y
or_bits {x} {y} h g = by_bits max bit_or or_step refl 64 x y h g

-- two bits differ exactly if their sum is odd
odd_sum : (x y : ℕ) → x < 2 → y < 2 → differs x y ≡ differ x y
unfolding differ
odd_sum zero y h g = omega arith
odd_sum (suc zero) zero h g = refl
odd_sum (suc zero) (suc zero) h g = refl
odd_sum (suc zero) (suc (suc y)) h g = absurd (omega arith)
odd_sum (suc (suc x)) y h g = absurd (omega arith)

pub xor_bits : {x y : ℕ} → x < 2 ^ 64 → y < 2 ^ 64 → word_xor x y ≡ bit_xor x y
xor_bits {x} {y} h g =
    by_bits differ bit_xor (λ x y. xor_step x y ∙ ap (λ (b : ℕ). bit_xor (x / 2) (y / 2) * 2 + b) (odd_sum (x % 2) (y % 2) (omega arith) (omega arith))) refl 64 x y h g
