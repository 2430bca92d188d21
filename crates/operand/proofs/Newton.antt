-- Newton's step for an inverse modulo a power of 2 doubles the number of right low bits.
-- Assumes nothing.
use Rattle.std.proofs.Common.{◌≡◌, ℕ, zero, suc, ◌+◌, ◌*◌, ◌/◌, ◌%◌, ◌^◌, ◌≤◌, true, cond, eqb, sym, refl, ap, ◌∙◌, mod-eq_of_lt, mul_assoc, mul_comm, add-mul, div-add-mod', mul-add, mul_left_comm, arith, pow-add, eq-eqb, eqb-true}
use native.Mathlib.Nat.{mod-one, mul-mod_left, zero-mod}
use lib.Pow.{pow-lt}
use Rattle.words.specs.Lists.{every}
use Rattle.words.specs.laws.Lists.{every_at}
use Rattle.operand.specs.laws.Congruent.{Congruent, Inverse, equal, reduced, swap, then, plus, times, cancel, fewer}

-- an odd word is its own inverse in its low 3 bits
pub own_inverse : (a : ℕ) → a % 2 ≡ 1 → Inverse 3 a a
unfolding every
own_inverse a h =
    let s = a % 8 in
    let odd : eqb (s % 2) 1 ≡ true = eq-eqb (s % 2) 1 (omega arith) in
    let square : eqb (s * s % 8) 1 ≡ true = rw odd at (every_at 8 (λ s. cond (eqb (s % 2) 1) (eqb (s * s % 8) 1) true) refl s (omega arith)) in
    let both : Congruent 3 (s * s) (a * a) = then (times s (reduced a)) (then (equal (mul_comm s a)) (times a (reduced a))) in
    then (swap both) (record { same = eqb-true (s * s % 8) 1 square })

module _ {k j : ℕ} (twice : j ≤ k + k) where
  square : {u : ℕ} → Congruent k u 0 → Congruent j (u * u) 0
  square {u} h =
      let q = u / 2 ^ k in
      let whole : q * 2 ^ k ≡ u = omega (arith, div-add-mod' u (2 ^ k), h.same, zero-mod (2 ^ k)) in
      let squared : u * u ≡ q * q * 2 ^ (k + k) = ap (λ (x : ℕ). x * x) (sym whole) ∙ (rw (pow-add 2 k k) (simp (mul_assoc, mul_comm, mul_left_comm))) in
      fewer twice (then (equal squared) (record { same = mul-mod_left (q * q) (2 ^ (k + k)) ∙ sym (zero-mod (2 ^ (k + k))) }))

  -- (1 + u)(1 - u) = 1 - u * u
  around_one : (rest u : ℕ) → Congruent j (rest + suc u) 2 → Congruent k u 0 → Congruent j (suc u * rest) 1
  around_one rest u sum h =
      let e = suc u in
      let squares : e * (rest + e) + 1 ≡ e * rest + u * u + e * 2 = simp (mul-add, add-mul) (omega arith) in
      let all : Congruent j (e * rest + u * u + e * 2) (1 + e * 2) = then (equal (sym squares)) (then (plus 1 (times e sum)) (equal (omega arith))) in
      let none : Congruent j (u * u + e * rest) (e * rest) = then (plus (e * rest) (square h)) (equal (omega arith)) in
      then (swap none) (then (equal (omega arith)) (cancel (e * 2) all))

  -- 0 and 1 agree in no bit
  none_agree : Congruent k 0 1 → j ≡ 0
  none_agree h = go k refl
    where
      go : (n : ℕ) → k ≡ n → j ≡ 0
      go zero e = omega arith
      go (suc n) e =
          let one : 1 % 2 ^ k ≡ 1 = mod-eq_of_lt (rw e (pow-lt {i = 0} (omega arith))) in
          absurd (omega (arith, h.same, zero-mod (2 ^ k)))

  pub newton : (e rest : ℕ) → Congruent j (rest + e) 2 → Congruent k e 1 → Congruent j (e * rest) 1
  newton zero rest sum h = record { same = rw (none_agree h) (mod-one (0 * rest) ∙ sym (mod-one 1)) }
  newton (suc u) rest sum h = around_one rest u sum (cancel 1 (then (equal (omega arith)) h))

-- the step as words take it
pub refined : (odd x rest : ℕ) {p r : ℕ} → p ≡ odd * x % 2 ^ 64 → (rest + p) % 2 ^ 64 ≡ 2 → r ≡ x * rest % 2 ^ 64
    → (k j : ℕ) → j ≤ k + k → j ≤ 64 → Inverse k odd x → Inverse j odd r
refined odd x rest {p} {r} product difference is k j twice fits inverse =
    let low : Congruent 64 p (odd * x) = then (equal product) (reduced (odd * x)) in
    let sum : Congruent 64 (rest + odd * x) 2 =
    then (equal (omega arith)) (then (plus rest (swap low)) (then (equal (omega arith)) (record { same = difference }))) in
    let all : Congruent 64 (odd * r) (odd * x * rest) =
    then (times odd (then (equal is) (reduced (x * rest)))) (equal (sym (mul_assoc odd x rest))) in
    then (fewer fits all) (newton twice (odd * x) rest (fewer fits sum) inverse)
