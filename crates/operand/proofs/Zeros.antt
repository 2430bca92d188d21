-- Trailing zeros: a word is a multiple of that power of 2, of no higher one, and what is left of it is odd.
-- Assumes nothing.
use Rattle.std.proofs.Common.{◌≡◌, ℕ, zero, suc, ◌+◌, ◌*◌, ◌/◌, ◌%◌, ◌^◌, ◌<◌, ◌≤◌, sym, refl, ap, ◌∙◌, mod-eq_of_lt, pow-suc, div-one, arith, pow_pos}
use native.Mathlib.Nat.{pow-succ', mod-one, div-div-eq-div-mul}
use lib.Arith.{mod-mul}
use lib.Count.{count_trailing_zeros, under, trailing_le}

-- the lowest bit apart
apart : (n k : ℕ) → n % 2 ^ suc k ≡ n / 2 % 2 ^ k * 2 + n % 2
apart n k = rw pow-suc (mod-mul n (pow_pos k) (omega arith))

pub zeros_rest : (d n : ℕ) → n % 2 ^ count_trailing_zeros d n ≡ 0
unfolding count_trailing_zeros
zeros_rest zero n = mod-one n
zeros_rest (suc d) n = go (n % 2) refl (zeros_rest d (n / 2))
  where
    go : (r : ℕ) → n % 2 ≡ r → n / 2 % 2 ^ count_trailing_zeros d (n / 2) ≡ 0 → n % 2 ^ under r (count_trailing_zeros d (n / 2)) ≡ 0
    go zero e ih = apart n (count_trailing_zeros d (n / 2)) ∙ (rw (ih, e))
    go (suc r) e ih = mod-one n

pub zeros_most : (d j n : ℕ) → j ≤ d → n % 2 ^ j ≡ 0 → j ≤ count_trailing_zeros d n
unfolding count_trailing_zeros
zeros_most d zero n h e = omega arith
zeros_most zero (suc j) n h e = absurd (omega arith)
zeros_most (suc d) (suc j) n h e =
    let parts : n / 2 % 2 ^ j * 2 + n % 2 ≡ 0 = sym (apart n j) ∙ e in
    let low : n % 2 ≡ 0 = omega arith in
    rw low (omega (arith, zeros_most d j (n / 2) (omega arith) (omega arith)))

pub zeros_odd : (d n : ℕ) → 0 < n → n < 2 ^ d → n / 2 ^ count_trailing_zeros d n % 2 ≡ 1
unfolding count_trailing_zeros
zeros_odd zero n h g = absurd (omega arith)
zeros_odd (suc d) n h g = go (n % 2) refl (λ p. zeros_odd d (n / 2) p (let w : n < 2 ^ d * 2 = rw pow-suc at g in omega arith))
  where
    go : (r : ℕ) → n % 2 ≡ r → (0 < n / 2 → n / 2 / 2 ^ count_trailing_zeros d (n / 2) % 2 ≡ 1) → n / 2 ^ under r (count_trailing_zeros d (n / 2)) % 2 ≡ 1
    go zero e ih =
        let t = count_trailing_zeros d (n / 2) in
        ap (λ (x : ℕ). n / x % 2) (pow-succ' 2 t) ∙ ap (λ (x : ℕ). x % 2) (sym (div-div-eq-div-mul n 2 (2 ^ t))) ∙ ih (omega arith)
    go (suc r) e ih = rw div-one (omega arith)

-- 0 alone has no bit set
pub zeros_all : (d n : ℕ) → n < 2 ^ d → count_trailing_zeros d n ≡ d → n ≡ 0
zeros_all d n h e = sym (mod-eq_of_lt h) ∙ (rw e at (zeros_rest d n))

pub zeros_below : (d n : ℕ) → n < 2 ^ d → (n ≡ 0 → ⊥) → count_trailing_zeros d n < d
zeros_below d n h other =
    let one_set : count_trailing_zeros d n ≡ d → ⊥ = λ e. other (zeros_all d n h e) in
    omega (arith, trailing_le d n)
