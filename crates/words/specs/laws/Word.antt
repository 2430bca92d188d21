-- Laws of Word.
-- Assumes nothing.
use Rattle.std.specs.Prelude.{◌≡◌, ℕ, ◌+◌, ◌-◌, ◌*◌, ◌/◌, ◌%◌, ◌^◌, ◌<◌, ◌≤◌, nat_lt, suc, Bool, true, false, refl}
use mir.Val.{to_z, sel}
use mir.Syntax.{w64}
use lib.Signed.{lt_z}
use lib.IntN.{pos, negsuc}
use Rattle.words.specs.laws.Truth.{same_bool}
use Rattle.std.proofs.Common.{sym, mul-add, add-mul, mul_assoc, mul_right_comm, div-add-mod', mul-le-mul, arith, lt-ltb, le-ltb, ltb-true, ltb-false}
use Rattle.std.proofs.Math.Nat.{mul-mul-mul_comm}
use Rattle.words.specs.Word.{signed_less, sign_extend}

pub sign_plus : (k x : ℕ) → x < 2 ^ (k - 1) → sign_extend k x ≡ x
unfolding sign_extend
sign_plus k x h = rw (lt-ltb x (2 ^ (k - 1)) h)

pub sign_minus : (k x : ℕ) → 2 ^ (k - 1) ≤ x → sign_extend k x ≡ 2 ^ 64 - (2 ^ k - x)
unfolding sign_extend
sign_minus k x h = rw (le-ltb x (2 ^ (k - 1)) h)

-- what is below p, less p, modulo 2 ^ 64
pub minus_wraps : {p x : ℕ} → x < p → p < 2 ^ 64 → (x + (2 ^ 64 - p)) % 2 ^ 64 ≡ 2 ^ 64 - (p - x)
minus_wraps h g = omega arith

-- a product of two halves fits a word
pub halves : {a b : ℕ} → a < 4294967296 → b < 4294967296 → a * b < 2 ^ 64
halves {a} {b} ha hb =
    let x : a ≤ 4294967295 = omega arith in
    let y : b ≤ 4294967295 = omega arith in
    let z : a * b ≤ 4294967295 * 4294967295 = mul-le-mul x y in
    omega arith

expand : (a1 a0 b1 b0 : ℕ) → (a1 * 4294967296 + a0) * (b1 * 4294967296 + b0) ≡ a1 * b1 * 18446744073709551616 + a1 * b0 * 4294967296 + a0 * b1 * 4294967296 + a0 * b0
expand a1 a0 b1 b0 =
    let p : a1 * 4294967296 * (b1 * 4294967296) ≡ a1 * b1 * 18446744073709551616 = mul-mul-mul_comm a1 4294967296 b1 4294967296 in
    let q : a1 * 4294967296 * b0 ≡ a1 * b0 * 4294967296 = mul_right_comm a1 4294967296 b0 in
    let r : a0 * (b1 * 4294967296) ≡ a0 * b1 * 4294967296 = sym (mul_assoc a0 b1 4294967296) in
    simp (add-mul, mul-add, p, q, r) (omega arith)

-- the product of the low halves and the sum of the cross products make the product
pub mul_wraps : (a b : ℕ) → (a % 4294967296 * (b % 4294967296) + (a % 4294967296 * (b / 4294967296) % 4294967296 + a / 4294967296 * (b % 4294967296) % 4294967296) % 4294967296 * 4294967296) % 2 ^ 64 ≡ a * b % 2 ^ 64
mul_wraps a b =
    let e : a * b ≡ (a / 4294967296 * 4294967296 + a % 4294967296) * (b / 4294967296 * 4294967296 + b % 4294967296) = rw (div-add-mod' a 4294967296, div-add-mod' b 4294967296) in
    rw (e, expand) (omega arith)

-- the order of signed readings, as the library has it, is the order of the words with their sign bits turned over
pub signed_order : (a b : ℕ) → a < 2 ^ 64 → b < 2 ^ 64 → lt_z (to_z w64 a) (to_z w64 b) ≡ signed_less a b
signed_order a b f g = go (nat_lt a (2 ^ 63)) (nat_lt b (2 ^ 63)) refl refl
  where
    go : (s t : Bool) → nat_lt a (2 ^ 63) ≡ s → nat_lt b (2 ^ 63) ≡ t → lt_z (sel s (pos a) (negsuc (2 ^ 64 - suc a))) (sel t (pos b) (negsuc (2 ^ 64 - suc b))) ≡ signed_less a b
    go true true d e =
        let x : a < 2 ^ 63 = ltb-true _ _ d in
        let y : b < 2 ^ 63 = ltb-true _ _ e in
        same_bool _ _ (λ h. let z : a < b = ltb-true _ _ h in lt-ltb _ _ (omega arith)) (λ h. let z : (a + 2 ^ 63) % 2 ^ 64 < (b + 2 ^ 63) % 2 ^ 64 = ltb-true _ _ h in lt-ltb _ _ (omega arith))
    go true false d e =
        let x : a < 2 ^ 63 = ltb-true _ _ d in
        let y : 2 ^ 63 ≤ b = ltb-false _ _ e in
        sym (le-ltb _ _ (omega arith))
    go false true d e =
        let x : 2 ^ 63 ≤ a = ltb-false _ _ d in
        let y : b < 2 ^ 63 = ltb-true _ _ e in
        sym (lt-ltb _ _ (omega arith))
    go false false d e =
        let x : 2 ^ 63 ≤ a = ltb-false _ _ d in
        let y : 2 ^ 63 ≤ b = ltb-false _ _ e in
        same_bool _ _ (λ h. let z : 2 ^ 64 - suc b < 2 ^ 64 - suc a = ltb-true _ _ h in lt-ltb _ _ (omega arith)) (λ h. let z : (a + 2 ^ 63) % 2 ^ 64 < (b + 2 ^ 63) % 2 ^ 64 = ltb-true _ _ h in lt-ltb _ _ (omega arith))
