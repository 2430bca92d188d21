-- Numbers that agree in their low k bits: congruence modulo 2^k.
-- Assumes nothing.
use Rattle.std.specs.Prelude.{◌≡◌, ℕ, zero, suc, ◌+◌, ◌-◌, ◌*◌, ◌/◌, ◌%◌, ◌^◌, ◌<◌, ◌≤◌}
use Rattle.std.proofs.Common.{sym, ap, ◌∙◌, mul-add, mul_assoc, mul-suc, arith, pow_pos}
use Rattle.std.proofs.Math.Nat.{mod-add-div', mod-mod, mod-add-mod, add-mul-mod_self_right}
use Rattle.std.proofs.Math.Pow.{mod-mod-pow}

pub record Congruent (k a b : ℕ) : Type 0 where
  pub same : a % 2 ^ k ≡ b % 2 ^ k

-- x is an inverse of a modulo 2^k
abbrev pub Inverse : ℕ → ℕ → ℕ → Type 0
Inverse k a x = Congruent k (a * x) 1

pub equal : {k a b : ℕ} → a ≡ b → Congruent k a b
equal {k} e = record { same = ap (λ (x : ℕ). x % 2 ^ k) e }

pub reduced : {k : ℕ} (a : ℕ) → Congruent k (a % 2 ^ k) a
reduced {k} a = record { same = mod-mod a (2 ^ k) }

pub swap : {k a b : ℕ} → Congruent k a b → Congruent k b a
swap c = record { same = sym c.same }

pub then : {k a b c : ℕ} → Congruent k a b → Congruent k b c → Congruent k a c
then p q = record { same = p.same ∙ q.same }

mod_plus : (m a b c : ℕ) → a % m ≡ b % m → (a + c) % m ≡ (b + c) % m
mod_plus m a b c e = sym (mod-add-mod a m c) ∙ ap (λ (x : ℕ). (x + c) % m) e ∙ mod-add-mod b m c

pub plus : {k a b : ℕ} (c : ℕ) → Congruent k a b → Congruent k (a + c) (b + c)
plus {k} {a} {b} c p = record { same = mod_plus (2 ^ k) a b c p.same }

mul_mod : (a b m : ℕ) → a * (b % m) % m ≡ a * b % m
mul_mod a b m =
    let e : a * b ≡ a * (b % m) + a * (b / m) * m =
    ap (λ (x : ℕ). a * x) (sym (mod-add-div' b m)) ∙ mul-add a (b % m) (b / m * m) ∙ ap (λ (x : ℕ). a * (b % m) + x) (sym (mul_assoc a (b / m) m)) in
    sym (ap (λ (x : ℕ). x % m) e ∙ add-mul-mod_self_right (a * (b % m)) (a * (b / m)) m)

pub times : {k a b : ℕ} (c : ℕ) → Congruent k a b → Congruent k (c * a) (c * b)
times {k} {a} {b} c p = record { same = sym (mul_mod c a (2 ^ k)) ∙ ap (λ (x : ℕ). c * x % 2 ^ k) p.same ∙ mul_mod c b (2 ^ k) }

-- c * (m - 1) undoes c
mod-cancel : (m a b c : ℕ) → 0 < m → (a + c) % m ≡ (b + c) % m → a % m ≡ b % m
mod-cancel zero a b c h e = absurd (omega arith)
mod-cancel (suc m) a b c h e =
    let whole : (x : ℕ) → x + c + c * m ≡ x + c * suc m = λ x. rw mul-suc (omega arith) in
    let there : (a + c + c * m) % suc m ≡ (b + c + c * m) % suc m = mod_plus (suc m) (a + c) (b + c) (c * m) e in
    sym (add-mul-mod_self_right a c (suc m)) ∙ (rw (whole a, whole b) at there) ∙ add-mul-mod_self_right b c (suc m)

pub cancel : {k a b : ℕ} (c : ℕ) → Congruent k (a + c) (b + c) → Congruent k a b
cancel {k} {a} {b} c p = record { same = mod-cancel (2 ^ k) a b c (pow_pos k) p.same }

pub fewer : {n k a b : ℕ} → k ≤ n → Congruent n a b → Congruent k a b
fewer {n} {k} {a} {b} h p =
    let whole : n ≡ n - k + k = omega arith in
    let there : a % 2 ^ (n - k + k) ≡ b % 2 ^ (n - k + k) = ap (λ (x : ℕ). a % 2 ^ x) (sym whole) ∙ p.same ∙ ap (λ (x : ℕ). b % 2 ^ x) whole in
    record { same = sym (mod-mod-pow a (n - k) k) ∙ ap (λ (x : ℕ). x % 2 ^ k) there ∙ mod-mod-pow b (n - k) k }
