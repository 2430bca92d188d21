-- Factors of a product modulo 2^64: trailing zeros decide, and the inverse gives the smallest.
-- Assumes nothing.
use Rattle.std.proofs.Common.{◌≡◌, ℕ, ◌+◌, ◌-◌, ◌*◌, ◌/◌, ◌%◌, ◌^◌, ◌<◌, ◌≤◌, sym, refl, ap, ◌∙◌, mod-lt, mod-eq_of_lt, mul_assoc, mul_comm, mul-zero, div-add-mod', mul-one, mul_right_comm, mul_left_comm, arith, pow_pos}
use native.Mathlib.Nat.{mod-le, mul-mod_left, zero-mod, eq_of_mul-eq-mul_right}
use lib.Pow.{mod-pow-add, shl-shr, ones_split, high, ones_lt}
use lib.Bits.{bit_and, and_le_l, and_mask}
use lib.Count.{count_trailing_zeros, trailing_le, trailing_of_zero}
use Rattle.instruction.specs.Opcode as op
use Rattle.values.specs.Fold.{fold_word}
use Rattle.operand.specs.Operand.{RightOperand}
use Rattle.std.specs.Prelude.{Ok, Some, None}
use Rattle.operand.proofs.Testing.{gives_it}
use Rattle.operand.specs.laws.Congruent.{Congruent, Inverse, equal, reduced, swap, then, times, fewer}
use Rattle.operand.proofs.Zeros.{zeros_rest, zeros_most, zeros_all}

multiple : (n : ℕ) → Congruent (count_trailing_zeros 64 n) n 0
multiple n = record { same = zeros_rest 64 n ∙ sym (zero-mod (2 ^ count_trailing_zeros 64 n)) }

-- a product has the trailing zeros of its factors
pub zeros_decide : (l w s : ℕ) → l * s % 2 ^ 64 ≡ w → count_trailing_zeros 64 l ≤ count_trailing_zeros 64 w
zeros_decide l w s e =
    let k = count_trailing_zeros 64 l in
    let product : Congruent k (l * s) 0 = then (equal (mul_comm l s)) (then (times s (multiple l)) (equal (mul-zero s))) in
    let whole : Congruent 64 w (l * s) = then (equal (sym e)) (reduced (l * s)) in
    zeros_most 64 k w (trailing_le 64 l) ((then (fewer (trailing_le 64 l) whole) product).same ∙ zero-mod (2 ^ k))

-- o and v are what is left of both words behind k zeros, and i is the inverse of o
module _ {n : ℕ} (j k : ℕ) (sum : j + k ≡ n) (o v i : ℕ) (inverse : Inverse n o i) where
  lifted : (a : ℕ) → a * 2 ^ k % 2 ^ n ≡ a % 2 ^ j * 2 ^ k
  lifted a = rw (← sum) (mod-pow-add (a * 2 ^ k) j k ∙ (rw (shl-shr a k, mul-mod_left a (2 ^ k)) (omega arith)))

  pub factor_gives : Congruent n (o * 2 ^ k * (v * i % 2 ^ j)) (v * 2 ^ k)
  factor_gives =
      let low : Congruent n (v * i % 2 ^ j * 2 ^ k) (v * i * 2 ^ k) = then (equal (sym (lifted (v * i)))) (reduced (v * i * 2 ^ k)) in
      let apart : o * 2 ^ k * (v * i % 2 ^ j) ≡ o * (v * i % 2 ^ j * 2 ^ k) = mul_assoc o (2 ^ k) (v * i % 2 ^ j) ∙ ap (λ (x : ℕ). o * x) (mul_comm (2 ^ k) (v * i % 2 ^ j)) in
      let together : o * (v * i * 2 ^ k) ≡ v * 2 ^ k * (o * i) = simp (mul_assoc, mul_comm, mul_left_comm) in
      then (equal apart) (then (times o low) (then (equal together) (then (times (v * 2 ^ k) inverse) (equal (mul-one (v * 2 ^ k))))))

  pub factor_least : (r : ℕ) → Congruent n (o * 2 ^ k * r) (v * 2 ^ k) → v * i % 2 ^ j ≤ r
  factor_least r e =
      let lows : o * r % 2 ^ j * 2 ^ k ≡ v % 2 ^ j * 2 ^ k = sym (lifted (o * r)) ∙ ap (λ (x : ℕ). x % 2 ^ n) (mul_right_comm o r (2 ^ k)) ∙ e.same ∙ lifted v in
      let left : Congruent j (o * r) v = record { same = eq_of_mul-eq-mul_right (2 ^ k) (pow_pos k) (o * r % 2 ^ j) (v % 2 ^ j) lows } in
      let together : i * (o * r) ≡ r * (o * i) = simp (mul_assoc, mul_comm, mul_left_comm) in
      let one : Congruent j (r * (o * i)) r = then (times r (fewer (omega arith) inverse)) (equal (mul-one r)) in
      let same : Congruent j (v * i) r = then (equal (mul_comm v i)) (then (times i (swap left)) (then (equal together) one)) in
      omega (arith, same.same, mod-le r (2 ^ j))

-- only the low bits that the product keeps
mask : (j k n : ℕ) → j + k ≡ n → (2 ^ n - 1) / 2 ^ k ≡ 2 ^ j - 1
mask j k n sum = rw (← sum, ones_split j k) (high (2 ^ j - 1) k (ones_lt k))

pub kept : (x k : ℕ) → k ≤ 64 → bit_and (x % 2 ^ 64) ((2 ^ 64 - 1) / 2 ^ k) ≡ x % 2 ^ (64 - k)
kept x k h =
    rw (mask (64 - k) k 64 (omega arith)) (and_mask (x % 2 ^ 64) (64 - k) ∙ (fewer {n = 64} (omega arith) (reduced x)).same)

-- the factor: what is left of the wanted word times the inverse, in the bits that the product keeps
abbrev factor_of : ℕ → ℕ → ℕ → ℕ
factor_of l w i = w / 2 ^ count_trailing_zeros 64 l * i % 2 ^ (64 - count_trailing_zeros 64 l)

module _ (l w i : ℕ) (fits : w < 2 ^ 64) (zeros : count_trailing_zeros 64 l ≤ count_trailing_zeros 64 w) (inverse : Inverse 64 (l / 2 ^ count_trailing_zeros 64 l) i) where
  sum : 64 - count_trailing_zeros 64 l + count_trailing_zeros 64 l ≡ 64
  sum = omega (arith, trailing_le 64 l)

  left : l / 2 ^ count_trailing_zeros 64 l * 2 ^ count_trailing_zeros 64 l ≡ l
  left = omega (arith, div-add-mod' l (2 ^ count_trailing_zeros 64 l), zeros_rest 64 l)

  wanted : w / 2 ^ count_trailing_zeros 64 l * 2 ^ count_trailing_zeros 64 l ≡ w
  wanted =
      let k = count_trailing_zeros 64 l in
      omega (arith, div-add-mod' w (2 ^ k), (fewer zeros (multiple w)).same, zero-mod (2 ^ k))

  gives : fold_word op.MulI 0 l (factor_of l w i) ≡ w
  unfolding fold_word
  gives =
      let k = count_trailing_zeros 64 l in
      let parts = factor_gives (64 - k) k sum (l / 2 ^ k) (w / 2 ^ k) i inverse in
      (then (equal (ap (λ (x : ℕ). x * factor_of l w i) (sym left))) (then parts (equal wanted))).same ∙ mod-eq_of_lt fits

  least : (r : ℕ) → fold_word op.MulI 0 l r ≡ w → factor_of l w i ≤ r
  unfolding fold_word
  least r e =
      let k = count_trailing_zeros 64 l in
      let there : Congruent 64 (l * r) w = then (swap (reduced (l * r))) (equal e) in
      factor_least (64 - k) k sum (l / 2 ^ k) (w / 2 ^ k) i inverse r (then (equal (ap (λ (x : ℕ). x * r) left)) (then there (equal (sym wanted))))

  pub factor_right : {x : ℕ} → x ≡ w / 2 ^ count_trailing_zeros 64 l * i % 2 ^ 64 → RightOperand op.MulI l w (Ok (Some (bit_and x ((2 ^ 64 - 1) / 2 ^ count_trailing_zeros 64 l))))
  factor_right {x} e =
      let k = count_trailing_zeros 64 l in
      let low : bit_and x ((2 ^ 64 - 1) / 2 ^ k) ≡ factor_of l w i = rw e (kept (w / 2 ^ k * i) k (trailing_le 64 l)) in
      let word : factor_of l w i < 2 ^ 64 = omega (arith, low, and_le_l x ((2 ^ 64 - 1) / 2 ^ k), mod-lt (w / 2 ^ k * i) {m = 2 ^ 64} (omega arith)) in
      rw low (gives_it op.MulI l refl (λ r h d. (least r d, gives)) word gives)

-- 0 gives 0 alone
pub zero_right : (l w : ℕ) → l ≡ 0 → w < 2 ^ 64 → count_trailing_zeros 64 l ≤ count_trailing_zeros 64 w → RightOperand op.MulI l w (Ok (Some 0))
unfolding RightOperand fold_word
zero_right l w z fits zeros =
    let all : 64 ≤ count_trailing_zeros 64 w = rw (z, trailing_of_zero 64) at zeros in
    let wanted : w ≡ 0 = zeros_all 64 w fits (omega (arith, trailing_le 64 w)) in
    (refl, record { word = omega arith; gives = rw (z, wanted); least = λ s less d. omega arith })

-- "none otherwise"
pub none_right : (l w : ℕ) → count_trailing_zeros 64 w < count_trailing_zeros 64 l → RightOperand op.MulI l w (Ok None)
unfolding RightOperand fold_word
none_right l w zeros = (refl, λ s h d. omega (arith, zeros_decide l w s d))
