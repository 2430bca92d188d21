-- A set of numbers as the bits of a list of words, 64 to a word.
-- Assumes nothing.
use Rattle.std.specs.Prelude.{◌≡◌, ℕ, suc, ◌+◌, ◌-◌, ◌*◌, ◌/◌, ◌%◌, ◌^◌, ◌<◌, ◌≤◌, min, max, Bool, true, false, cond, ◌⊎◌, List, length, ◌==◌, ◌≢◌, nat_eq, nat_le, slice_index, slice_set, refl}
use Rattle.std.proofs.Common.{◌∙◌, ap, ⊎_elim, inl, inr, one-mul, add-mul, pow-suc, mod-lt, div-add-mod', div-lt_iff_lt-mul, arith, lit<, get_or-set_same, get_or-set_other, shl_exact, pow_pos, pow-add, eqb-true, leb-true, leb-false}
use Rattle.std.proofs.Math.Nat.{div_self, div-eq_of_lt}
use Rattle.std.proofs.Math.Arith.{digits_div}
use Rattle.std.proofs.Math.Pow.{pow-lt}
use Rattle.std.proofs.lemmas.Nat.{shl-shr, or_shr, and_shr}
use Rattle.std.specs.Int.Bits.{bit_and, bit_or, or_step, and_step}
use Rattle.std.proofs.lemmas.Bool.{eqb-false}

abbrev pub bit : ℕ → ℕ → ℕ
bit w k = w / 2 ^ k % 2

unfoldable pub member : List ℕ → ℕ → Bool
member l i = bit (slice_index l (i / 64)) (i % 64) == 1

unfoldable pub inserted : List ℕ → ℕ → List ℕ
inserted l i = slice_set l (i / 64) (bit_or (slice_index l (i / 64)) (2 ^ (i % 64)))

unfoldable pub removed : List ℕ → ℕ → List ℕ
removed l i = slice_set l (i / 64) (bit_and (slice_index l (i / 64)) ((2 ^ 64 - 1) - 2 ^ (i % 64)))

-- one bit of a word
pub one_shl : (k : ℕ) → k < 64 → 1 * 2 ^ k % 2 ^ 64 ≡ 2 ^ k
one_shl k h = shl_exact {a = 1} 1 k 64 (lit< tt) (omega arith) ∙ one-mul (2 ^ k)

le_or_lt : (a b : ℕ) → (a ≤ b) ⊎ (b < a)
le_or_lt a b = go (nat_le a b) refl
  where
    go : (t : Bool) → nat_le a b ≡ t → (a ≤ b) ⊎ (b < a)
    go true e = inl (leb-true a b e)
    go false e = inr (leb-false a b e)

pub bit_or_lem : (a b k : ℕ) → bit (bit_or a b) k ≡ max (bit a k) (bit b k)
bit_or_lem a b k = ap (λ (n : ℕ). n % 2) (or_shr a b k ∙ or_step (a / 2 ^ k) (b / 2 ^ k)) ∙ omega arith

pub bit_and_lem : (a b k : ℕ) → bit (bit_and a b) k ≡ min (bit a k) (bit b k)
bit_and_lem a b k = ap (λ (n : ℕ). n % 2) (and_shr a b k ∙ and_step (a / 2 ^ k) (b / 2 ^ k)) ∙ omega arith

-- the bits of 2 ^ k: at k, and elsewhere
bit_same : (k : ℕ) → bit (2 ^ k) k ≡ 1
bit_same k = ap (λ (n : ℕ). n % 2) (div_self (pow_pos k))

bit_other : (j k : ℕ) → (j ≢ k) → bit (2 ^ k) j ≡ 0
bit_other j k n = ⊎_elim high low (le_or_lt j k)
  where
    low : k < j → bit (2 ^ k) j ≡ 0
    low h = ap (λ (n : ℕ). n % 2) (div-eq_of_lt (pow-lt h))

    high : j ≤ k → bit (2 ^ k) j ≡ 0
    high h =
        let e : k ≡ suc (k - j - 1) + j = omega arith in
        ap (λ (n : ℕ). 2 ^ n / 2 ^ j % 2) e
        ∙ ap (λ (n : ℕ). n / 2 ^ j % 2) (pow-add 2 (suc (k - j - 1)) j)
        ∙ ap (λ (n : ℕ). n % 2) (shl-shr (2 ^ suc (k - j - 1)) j)
        ∙ ap (λ (n : ℕ). n % 2) (pow-suc 2 (k - j - 1))
        ∙ omega arith

-- the bits of a word turned over
bit_not : (w k : ℕ) → w < 2 ^ 64 → k < 64 → bit ((2 ^ 64 - 1) - w) k ≡ 1 - bit w k
bit_not w k f h = turned (2 ^ 64) (2 ^ (63 - k)) (2 ^ k) w (pow_pos k) whole f
  where
    whole : 2 ^ 64 ≡ 2 ^ (63 - k) * 2 * 2 ^ k
    whole =
        let e : 64 ≡ suc (63 - k) + k = omega arith in
        ap (λ (n : ℕ). 2 ^ n) e ∙ pow-add 2 (suc (63 - k)) k ∙ ap (λ (n : ℕ). n * 2 ^ k) (pow-suc 2 (63 - k))

    -- with w = q * p + r the quotient of N - 1 - w by p is half * 2 - 1 - q
    turned : (N half p w : ℕ) → 0 < p → N ≡ half * 2 * p → w < N → ((N - 1) - w) / p % 2 ≡ 1 - w / p % 2
    turned N half p w pos e l =
        let q : ℕ = w / p in
        let t : ℕ = half * 2 - 1 - q in
        let below : q < half * 2 = (div-lt_iff_lt-mul pos).1 (rw e at l) in
        let parts : half * 2 ≡ t + 1 + q = omega arith in
        let whole : N ≡ t * p + p + q * p = e ∙ ap (λ (n : ℕ). n * p) parts ∙ simp (add-mul, one-mul) in
        let low : w % p < p = mod-lt w pos in
        let word : q * p + w % p ≡ w = div-add-mod' w p in
        let quotient : ((N - 1) - w) / p ≡ t = ap (λ (n : ℕ). n / p) (omega arith) ∙ digits_div t {r = p - 1 - w % p} (omega arith) in
        ap (λ (n : ℕ). n % 2) quotient ∙ omega arith

module _ (l : List ℕ) (i : ℕ) (h : i < 64 * length l) where
  room : i / 64 < length l
  room = omega arith

  low : i % 64 < 64
  low = omega arith

  -- the word of i
  abbrev word : ℕ
  word = slice_index l (i / 64)

  -- the word of i replaced by v, which has the same bits but for that of i
  module _ (v j : ℕ) (same : (k : ℕ) → k < 64 → (k ≢ i % 64) → bit v k ≡ bit word k) where
    other : (j ≢ i) → bit (slice_index (slice_set l (i / 64) v) (j / 64)) (j % 64) ≡ bit (slice_index l (j / 64)) (j % 64)
    other n = go (j / 64 == i / 64) refl
      where
        go : (t : Bool) → (j / 64 == i / 64) ≡ t → bit (slice_index (slice_set l (i / 64) v) (j / 64)) (j % 64) ≡ bit (slice_index l (j / 64)) (j % 64)
        go false e = ap (λ (w : ℕ). bit w (j % 64)) (get_or-set_other l (i / 64) (j / 64) v 0 (eqb-false _ _ e))
        go true e =
            let q : j / 64 ≡ i / 64 = eqb-true (j / 64) (i / 64) e in
            rw (q, get_or-set_same l (i / 64) v 0 room) (same (j % 64) (omega arith) (λ m. n (omega arith)))

    -- membership after that: of i as v has it, of others as before
    replaced : (b : Bool) → (bit v (i % 64) == 1) ≡ b → (bit (slice_index (slice_set l (i / 64) v) (j / 64)) (j % 64) == 1) ≡ cond (j == i) b (bit (slice_index l (j / 64)) (j % 64) == 1)
    replaced b e = go (j == i) refl
      where
        go : (t : Bool) → (j == i) ≡ t → (bit (slice_index (slice_set l (i / 64) v) (j / 64)) (j % 64) == 1) ≡ cond t b (bit (slice_index l (j / 64)) (j % 64) == 1)
        go true q = rw (eqb-true j i q, get_or-set_same l (i / 64) v 0 room) e
        go false q = ap (λ (w : ℕ). nat_eq w 1) (other (eqb-false j i q))

  -- j is in the set with i put in exactly if it is i or was in it
  pub member_inserted : (j : ℕ) → member (inserted l i) j ≡ cond (j == i) true (member l j)
  unfolding member inserted
  member_inserted j = replaced (bit_or word (2 ^ (i % 64))) j same true (ap (λ (n : ℕ). nat_eq n 1) self)
    where
      same : (k : ℕ) → k < 64 → (k ≢ i % 64) → bit (bit_or word (2 ^ (i % 64))) k ≡ bit word k
      same k g n = bit_or_lem word (2 ^ (i % 64)) k ∙ omega (arith, bit_other k (i % 64) n)

      self : bit (bit_or word (2 ^ (i % 64))) (i % 64) ≡ 1
      self = bit_or_lem word (2 ^ (i % 64)) (i % 64) ∙ omega (arith, bit_same (i % 64))

  -- j is in the set with i taken out exactly if it is not i and was in it
  pub member_removed : (j : ℕ) → member (removed l i) j ≡ cond (j == i) false (member l j)
  unfolding member removed
  member_removed j = replaced (bit_and word ((2 ^ 64 - 1) - 2 ^ (i % 64))) j same false (ap (λ (n : ℕ). nat_eq n 1) self)
    where
      fits : 2 ^ (i % 64) < 2 ^ 64
      fits = pow-lt low

      same : (k : ℕ) → k < 64 → (k ≢ i % 64) → bit (bit_and word ((2 ^ 64 - 1) - 2 ^ (i % 64))) k ≡ bit word k
      same k g n = bit_and_lem word ((2 ^ 64 - 1) - 2 ^ (i % 64)) k ∙ omega (arith, bit_other k (i % 64) n, bit_not (2 ^ (i % 64)) k fits g)

      self : bit (bit_and word ((2 ^ 64 - 1) - 2 ^ (i % 64))) (i % 64) ≡ 0
      self = bit_and_lem word ((2 ^ 64 - 1) - 2 ^ (i % 64)) (i % 64) ∙ omega (arith, bit_same (i % 64), bit_not (2 ^ (i % 64)) (i % 64) fits low)
