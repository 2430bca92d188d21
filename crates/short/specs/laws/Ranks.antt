-- Numbers, lengths and ranks.
-- Assumes nothing.
use Rattle.std.specs.Prelude.{◌≡◌, refl, Bool, true, false, ℕ, zero, suc, ◌+◌, ◌*◌, ◌-◌, ◌/◌, ◌%◌, ◌^◌, ◌≤◌, ◌<◌, ltb}
use Rattle.std.proofs.Common.{sym, ◌∙◌, pow-suc, div-one, add-one, arith, lt-ltb, le-ltb, ltb-true, ltb-false}
use Rattle.std.proofs.Math.Nat.{div-div-eq-div-mul, div-eq_of_lt, sub-zero}
use Rattle.short.specs.Short.{length_of, first_of, rank_of, short_count, first_of_three, first_of_four}

-- there are three lengths
pub by_length : (P : ℕ → Type 0) → P 2 → P 3 → P 4 → (n : ℕ) → 2 ≤ n → n ≤ 4 → P n
by_length P two three four zero low high = absurd (omega arith)
by_length P two three four (suc zero) low high = absurd (omega arith)
by_length P two three four (suc (suc zero)) low high = two
by_length P two three four (suc (suc (suc zero))) low high = three
by_length P two three four (suc (suc (suc (suc zero)))) low high = four
by_length P two three four (suc (suc (suc (suc (suc n))))) low high = absurd (omega arith)

-- the parts of a number
pub record Parts (k : ℕ) : Type 0 where
  pub two : 2 ≤ length_of k
  pub four : length_of k ≤ 4
  pub inside : rank_of k < 24 ^ length_of k
  pub whole : first_of (length_of k) + rank_of k ≡ k

pub parts : (k : ℕ) → k < short_count → Parts k
unfolding length_of first_of
parts k h = go (ltb k first_of_three) refl (ltb k first_of_four) refl
  where
    go : (s : Bool) → ltb k first_of_three ≡ s → (t : Bool) → ltb k first_of_four ≡ t → Parts k
    go true e t f = let few = ltb-true k first_of_three e in record { two = rw e (omega arith); four = rw e (omega arith); inside = rw e (omega arith); whole = rw e (omega arith) }
    go false e true f =
        let many = ltb-false k first_of_three e in
        let few = ltb-true k first_of_four f in
        record { two = rw (e, f) (omega arith); four = rw (e, f) (omega arith); inside = rw (e, f) (omega arith); whole = rw (e, f) (omega arith) }
    go false e false f =
        let many = ltb-false k first_of_four f in
        record { two = rw (e, f) (omega arith); four = rw (e, f) (omega arith); inside = rw (e, f) (omega arith); whole = rw (e, f) (omega arith) }

-- the number of a length and a rank
pub record Numbered (n r : ℕ) : Type 0 where
  pub length_is : length_of (first_of n + r) ≡ n
  pub rank_is : rank_of (first_of n + r) ≡ r
  pub some : first_of n + r < short_count

pub numbered : (n r : ℕ) → 2 ≤ n → n ≤ 4 → r < 24 ^ n → Numbered n r
unfolding length_of first_of
numbered n r low high = by_length (λ m. r < 24 ^ m → Numbered m r) two three four n low high
  where
    two : r < 24 ^ 2 → Numbered 2 r
    two h =
        let short = lt-ltb (0 + r) first_of_three (omega arith) in
        record { length_is = rw short; rank_is = rw short (omega arith); some = omega arith }

    three : r < 24 ^ 3 → Numbered 3 r
    three h =
        let long = le-ltb (first_of_three + r) first_of_three (omega arith) in
        let short = lt-ltb (first_of_three + r) first_of_four (omega arith) in
        record { length_is = rw (long, short); rank_is = rw (long, short) (omega arith); some = omega arith }

    four : r < 24 ^ 4 → Numbered 4 r
    four h =
        let long = le-ltb (first_of_four + r) first_of_three (omega arith) in
        let longer = le-ltb (first_of_four + r) first_of_four (omega arith) in
        record { length_is = rw (long, longer); rank_is = rw (long, longer) (omega arith); some = omega arith }

-- what is read so far is the rank without the digits behind
pub horner : (r e : ℕ) → 24 * (r / 24 ^ suc e) + r / 24 ^ e % 24 ≡ r / 24 ^ e
horner r e =
    let q : r / 24 ^ e / 24 ≡ r / 24 ^ suc e = div-div-eq-div-mul r (24 ^ e) 24 ∙ rw (pow-suc 24 e) in
    rw (← q) (omega arith)

pub small_power : (e : ℕ) → e ≤ 4 → 24 ^ e ≤ 331776
small_power zero h = omega arith
small_power (suc zero) h = omega arith
small_power (suc (suc zero)) h = omega arith
small_power (suc (suc (suc zero))) h = omega arith
small_power (suc (suc (suc (suc zero)))) h = omega arith
small_power (suc (suc (suc (suc (suc e))))) h = absurd (omega arith)

-- the rank that is read, at the start, after an instruction more, and at the end
pub none_read : (n k : ℕ) → k < 24 ^ n → 0 ≡ k / 24 ^ (n - 0)
none_read n k h = sym (rw (sub-zero n) (div-eq_of_lt h))

pub more_read : (n p k rank d : ℕ) → p < n → rank ≡ k / 24 ^ (n - p) → d ≡ k / 24 ^ (n - (p + 1)) % 24 → 24 * rank + d ≡ k / 24 ^ (n - (p + 1))
more_read n p k rank d h e f =
    let left : n - p ≡ suc (n - (p + 1)) = omega arith in
    let so_far : rank ≡ k / 24 ^ suc (n - (p + 1)) = rw left at e in
    rw (so_far, f) (horner k (n - (p + 1)))

pub all_read : (n p k : ℕ) → p ≡ n → k / 24 ^ (n - p) ≡ k
all_read n p k e = let none : n - p ≡ 0 = omega arith in rw none (div-one k)

pub read_below : (p rank d : ℕ) → rank < 24 ^ p → d < 24 → 24 * rank + d < 24 ^ (p + 1)
read_below p rank d h k = rw (add-one p, pow-suc 24 p) (omega arith)
