-- The walk to the lowest slot that holds a number: its invariant, a step, and where it ends.
-- Assumes nothing.
use Rattle.std.proofs.Common.{◌≡◌, ℕ, ◌+◌, ◌<◌, ◌≤◌, Bool, true, false, ◌&&◌, eqb, List, get_or, refl, arith, below_more, eq-eqb}
use Rattle.values.specs.laws.Memory.{Memory, number_at, alike, holder, Lowest}

-- none of the slots from `from` on and below r is one
pub record Passed (types : List ℕ) (m : Memory) (d type : ℕ) (exact : Bool) (from to r : ℕ) : Type 0 where
  pub low : from ≤ r
  pub high : from ≤ to → r ≤ to
  pub passed : (q : ℕ) → from ≤ q → q < r → holder types m d type exact q ≡ false

module _ {types : List ℕ} {m : Memory} {d type : ℕ} {exact : Bool} {from to : ℕ} where
  module _ {r : ℕ} (p : Passed types m d type exact from to r) where
    module _ {x : ℕ} {y : Bool} (number : x ≡ number_at m r) (like : y ≡ alike exact (get_or types r 0) type) where
      tested : {b : Bool} → eqb x d && y ≡ b → holder types m d type exact r ≡ b
      unfolding holder
      tested e = rw (← number, ← like) e

      pub scan_hit : eqb x d && y ≡ true → Lowest types m d type exact from to r
      scan_hit e = record { low = p.low; high = p.high; passed = p.passed; hit = λ k. tested e }

      pub scan_on : r < to → eqb x d && y ≡ false → Passed types m d type exact from to (r + 1)
      scan_on l e =
          record {
            low = omega (arith, p.low);
            high = λ k. omega arith;
            passed = λ q k a. below_more (λ i. from ≤ i → holder types m d type exact i ≡ false) r (λ i b c. p.passed i c b) (λ c. tested e) q a k;
          }

-- a slot that holds the number and has the type
pub scan_first : {types : List ℕ} {m : Memory} {d type from to : ℕ} → number_at m from ≡ d → get_or types from 0 ≡ type → Lowest types m d type true from to from
unfolding holder alike
scan_first {d} {type} e f = record { low = omega arith; high = λ l. l; passed = λ q l k. absurd (omega arith); hit = λ k. rw (e, f, eq-eqb d d refl, eq-eqb type type refl) }
