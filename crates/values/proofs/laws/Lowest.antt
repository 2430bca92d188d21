-- The laws of `lowest_slot`: what is found is the lowest slot that holds the value and has the type.
-- Assumes nothing.
use Rattle.std.specs.Prelude.{None, Some, ◌≡◌, ℕ, zero, suc, ◌+◌, ◌<◌, Bool, true, false, cond, ◌&&◌, List, [], ◌∷◌, length, ◌==◌, slice_index}
use Rattle.std.proofs.Math.Path.{refl}
use native.Mathlib.Omega.{arith}
use Rattle.values.specs.Values.{Values, same_atom, value_of, lowest_from, lowest_slot}
use Rattle.values.specs.declared.Atom.{Atom}
use Rattle.values.specs.laws.Lowest.{holds_as, same_atom_lem}

module _ (t : Values) (v : Atom) (type : ℕ) where
  -- slot r is the j-th of those listed from slot s on
  from_is : (ks : List ℕ) (s j r : ℕ) → s + j ≡ r → j < length ks → holds_as t v type r (slice_index ks j) ≡ true
      → ((i q : ℕ) → s + i ≡ q → i < j → holds_as t v type q (slice_index ks i) ≡ false) → lowest_from t v type s ks ≡ Some r
  unfolding lowest_from
  from_is [] s j r at l e f = absurd (omega arith)
  from_is (k ∷ ks) s zero r at l e f = let z : s ≡ r = omega arith in rw (z, e)
  from_is (k ∷ ks) s (suc j) r at l e f = rw (f 0 s (omega arith) (omega arith)) (from_is ks (suc s) j r (omega arith) (omega arith) e (λ i q a m. f (suc i) q (omega arith) (omega arith)))

  from_none : (ks : List ℕ) (s : ℕ) → ((i q : ℕ) → s + i ≡ q → i < length ks → holds_as t v type q (slice_index ks i) ≡ false) → lowest_from t v type s ks ≡ None
  unfolding lowest_from
  from_none [] s f = refl
  from_none (k ∷ ks) s f = rw (f 0 s (omega arith) (omega arith)) (from_none ks (suc s) (λ i q a m. f (suc i) q (omega arith) (omega arith)))

  from_found : (ks : List ℕ) (s r : ℕ) → lowest_from t v type s ks ≡ Some r → (value_of t r ≡ v) × (r < s + length ks)
  unfolding lowest_from
  from_found [] s r e = let z : ◌≡◌ {A = ℕ} 0 1 = cc in absurd (omega arith)
  from_found (k ∷ ks) s r e = go (from_found ks (suc s) r) (same_atom (value_of t s) v) refl (k == type) e
    where
      go : (lowest_from t v type (suc s) ks ≡ Some r → (value_of t r ≡ v) × (r < suc s + length ks)) → (a : Bool) → same_atom (value_of t s) v ≡ a → (b : Bool)
          → cond (a && b) (Some s) (lowest_from t v type (suc s) ks) ≡ Some r → (value_of t r ≡ v) × (r < s + suc (length ks))
      go f true h true q = let z : s ≡ r = cc in rw (← z) (same_atom_lem (value_of t s) v h, omega arith)
      go f true h false q = let w = f q in (w.0, omega (arith, w.1))
      go f false h b q = let w = f q in (w.0, omega (arith, w.1))

  module _ (types : List ℕ) where
    pub lowest_is : (r : ℕ) → r < length types → holds_as t v type r (slice_index types r) ≡ true → ((q : ℕ) → q < r → holds_as t v type q (slice_index types q) ≡ false)
        → lowest_slot types t v type ≡ Some r
    lowest_is r l e f = from_is types 0 r r (omega arith) l e (λ i q a m. let z : i ≡ q = omega arith in rw (← z) (f i m))

    pub lowest_none : ((q : ℕ) → q < length types → holds_as t v type q (slice_index types q) ≡ false) → lowest_slot types t v type ≡ None
    lowest_none f = from_none types 0 (λ i q a m. let z : i ≡ q = omega arith in rw (← z) (f i m))

    -- what is found holds the value and is a slot
    pub lowest_found : (r : ℕ) → lowest_slot types t v type ≡ Some r → (value_of t r ≡ v) × (r < length types)
    lowest_found r e = let w = from_found types 0 r e in (w.0, omega (arith, w.1))
