-- The bytes of entries: how many they are, and where each entry's are.
-- Assumes nothing.
use Rattle.std.specs.Prelude.{◌≡◌, length, get_or, take, drop}
use Rattle.std.proofs.Math.Path.{refl, sym, ap}
use Rattle.std.proofs.Common.{◌∙◌, mul-zero, mul-suc, arith, length-take-le}
use mathlib.Core.List.{List, [], ◌∷◌, ◌++◌, append_assoc, append-nil}
use Prim.Native.Nat.{ℕ, zero, suc, ◌+◌, ◌*◌, ◌<◌}
use Rattle.std.proofs.Math.ListN.{length-append}
use borrow.Rule.Slice.PartMut.{mid_of}
use Rattle.run.specs.laws.Reading.{middle}
use Rattle.again.specs.Again.{bytes_of}

module _ {A : Type 0} (bytes : A → List ℕ) where
  -- an entry's bytes lie between those of the entries before it and after it
  pub around : (xs : List A) (k : ℕ) (d : A) → k < length xs → bytes_of bytes xs ≡ bytes_of bytes (take k xs) ++ bytes (get_or xs k d) ++ bytes_of bytes (drop (suc k) xs)
  unfolding bytes_of
  around [] k d h = absurd (omega arith)
  around (x ∷ xs) zero d h = refl
  around (x ∷ xs) (suc k) d h =
      ap (λ (l : List ℕ). bytes x ++ l) (around xs k d (omega arith)) ∙ simp append_assoc

  -- what stands before the next entry
  pub bytes_next : (xs : List A) (k : ℕ) (d : A) → k < length xs → bytes_of bytes (take (suc k) xs) ≡ bytes_of bytes (take k xs) ++ bytes (get_or xs k d)
  unfolding bytes_of
  bytes_next [] k d h = absurd (omega arith)
  bytes_next (x ∷ xs) zero d h = append-nil (bytes x)
  bytes_next (x ∷ xs) (suc k) d h = ap (λ (l : List ℕ). bytes x ++ l) (bytes_next xs k d (omega arith)) ∙ simp append_assoc

  pub next_long : (xs : List A) (k : ℕ) (d : A) → k < length xs → length (bytes_of bytes (take (suc k) xs)) ≡ length (bytes_of bytes (take k xs)) + length (bytes (get_or xs k d))
  next_long xs k d h = ap length (bytes_next xs k d h) ∙ length-append (bytes_of bytes (take k xs)) (bytes (get_or xs k d))

  module _ (size : ℕ) (long : (x : A) → length (bytes x) ≡ size) where
    pub bytes_long : (xs : List A) → length (bytes_of bytes xs) ≡ size * length xs
    unfolding bytes_of
    bytes_long [] = sym (mul-zero size)
    bytes_long (x ∷ xs) = length-append (bytes x) (bytes_of bytes xs) ∙ rw (long x, bytes_long xs, mul-suc) (omega arith)

    pub ahead_long : (xs : List A) (k : ℕ) → k < length xs → length (bytes_of bytes (take k xs)) ≡ size * k
    ahead_long xs k h = bytes_long (take k xs) ∙ ap (λ (n : ℕ). size * n) (length-take-le k xs (omega arith))

    pub entry_mid : (xs : List A) (k : ℕ) (d : A) → k < length xs → mid_of (size * k) size (bytes_of bytes xs) ≡ bytes (get_or xs k d)
    entry_mid xs k d h =
        ap (mid_of (size * k) size) (around xs k d h)
        ∙ middle (bytes_of bytes (take k xs)) (bytes (get_or xs k d)) (bytes_of bytes (drop (suc k) xs)) (size * k) size (ahead_long xs k h) (long (get_or xs k d))
