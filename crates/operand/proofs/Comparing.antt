-- The words that make a comparison true or false, from what it says of numbers.
-- Assumes nothing.
use Rattle.std.proofs.Common.{◌≡◌, ℕ, suc, ◌+◌, ◌%◌, ◌^◌, ◌<◌, ◌≤◌, Bool, true, false, eqb, ltb, leb, eq-eqb, ne_eqb, eqb-true, le-leb, leb-false, leb-true}
use borrow.Author.Tests.{lt-leb, eqb-false}
use Rattle.words.specs.Word.{signed_less}
use Rattle.operand.specs.laws.Candidate.{Tips}

module _ (a b : ℕ → ℕ) {c : ℕ} {t : Bool} where
  holds : t ≡ true → ((r : ℕ) → r < 2 ^ 64 → a r ≤ b r → (c ≤ r) × (a c ≤ b c)) → Tips (λ r. leb (a r) (b r)) t c
  holds e f =
      rw e (λ r h d. let there = f r h (leb-true (a r) (b r) d) in (there.0, le-leb (a c) (b c) there.1))

  fails : t ≡ false → ((r : ℕ) → r < 2 ^ 64 → b r < a r → (c ≤ r) × (b c < a c)) → Tips (λ r. leb (a r) (b r)) t c
  fails e f =
      rw e (λ r h d. let there = f r h (leb-false (a r) (b r) d) in (there.0, lt-leb (a c) (b c) there.1))

-- with the sign bit turned over, the order of signed readings is that of the words
abbrev bias : ℕ → ℕ
bias x = (x + 2 ^ 63) % 2 ^ 64

module _ (l : ℕ) {c : ℕ} {t : Bool} where
  pub equal_holds : t ≡ true → ((r : ℕ) → r < 2 ^ 64 → l ≡ r → (c ≤ r) × (l ≡ c)) → Tips (λ r. eqb l r) t c
  equal_holds e f = rw e (λ r h d. let there = f r h (eqb-true l r d) in (there.0, eq-eqb l c there.1))

  pub equal_fails : t ≡ false → ((r : ℕ) → r < 2 ^ 64 → (l ≡ r → ⊥) → (c ≤ r) × (l ≡ c → ⊥)) → Tips (λ r. eqb l r) t c
  equal_fails e f = rw e (λ r h d. let there = f r h (eqb-false l r d) in (there.0, ne_eqb l c there.1))

  pub less_holds : t ≡ true → ((r : ℕ) → r < 2 ^ 64 → l < r → (c ≤ r) × (l < c)) → Tips (λ r. ltb l r) t c
  less_holds = holds (λ r. suc l) (λ r. r)

  pub less_fails : t ≡ false → ((r : ℕ) → r < 2 ^ 64 → r < suc l → (c ≤ r) × (c < suc l)) → Tips (λ r. ltb l r) t c
  less_fails = fails (λ r. suc l) (λ r. r)

  pub at_most_holds : t ≡ true → ((r : ℕ) → r < 2 ^ 64 → l ≤ r → (c ≤ r) × (l ≤ c)) → Tips (λ r. leb l r) t c
  at_most_holds = holds (λ r. l) (λ r. r)

  pub at_most_fails : t ≡ false → ((r : ℕ) → r < 2 ^ 64 → r < l → (c ≤ r) × (c < l)) → Tips (λ r. leb l r) t c
  at_most_fails = fails (λ r. l) (λ r. r)

  pub signed_less_holds : t ≡ true → ((r : ℕ) → r < 2 ^ 64 → bias l < bias r → (c ≤ r) × (bias l < bias c)) → Tips (λ r. signed_less l r) t c
  signed_less_holds = holds (λ r. suc (bias l)) bias

  pub signed_less_fails : t ≡ false → ((r : ℕ) → r < 2 ^ 64 → bias r < suc (bias l) → (c ≤ r) × (bias c < suc (bias l))) → Tips (λ r. signed_less l r) t c
  signed_less_fails = fails (λ r. suc (bias l)) bias

  pub signed_greater_holds : t ≡ true → ((r : ℕ) → r < 2 ^ 64 → bias r < bias l → (c ≤ r) × (bias c < bias l)) → Tips (λ r. signed_less r l) t c
  signed_greater_holds = holds (λ r. suc (bias r)) (λ r. bias l)

  pub signed_greater_fails : t ≡ false → ((r : ℕ) → r < 2 ^ 64 → bias l < suc (bias r) → (c ≤ r) × (bias l < suc (bias c))) → Tips (λ r. signed_less r l) t c
  signed_greater_fails = fails (λ r. suc (bias r)) (λ r. bias l)
