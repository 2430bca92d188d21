-- A loop that stores the value of a function at each place, from 0 up: the first p elements are its values.
-- Assumes nothing.
use Rattle.std.specs.Prelude.{◌≡◌, ℕ, zero, suc, ◌+◌, ◌<◌, List, [], ◌∷◌, ◌++◌, length, take, slice_set}
use Rattle.std.proofs.Common.{sym, ◌∙◌, zero-add, suc-add, take-suc-set}
use Rattle.std.proofs.Math.Path.{ap}
use Rattle.std.proofs.Math.Nat.{add-zero, add-suc}
use Rattle.std.proofs.Math.Numerals.{add-one}
use Rattle.std.proofs.Math.Seq.{take-length}
use Rattle.words.specs.Lists.{tabulate_from, tabulate}

module _ {A : Type 0} (f : ℕ → A) where
  tabulate_from_lem : (p k : ℕ) → tabulate_from p (suc k) f ≡ tabulate_from p k f ++ (f (p + k) ∷ [])
  unfolding tabulate_from
  tabulate_from_lem p zero = rw add-zero
  tabulate_from_lem p (suc k) = ap (λ (l : List A). f p ∷ l) (tabulate_from_lem (suc p) k ∙ rw (suc-add p k, add-suc p k))

  pub tabulate_more : (n : ℕ) → tabulate (n + 1) f ≡ tabulate n f ++ (f n ∷ [])
  unfolding tabulate
  tabulate_more n = rw add-one (tabulate_from_lem 0 n ∙ rw zero-add)

  pub tabulated_turn : (l : List A) (p : ℕ) (v : A) → take p l ≡ tabulate p f → p < length l → v ≡ f p → take (p + 1) (slice_set l p v) ≡ tabulate (p + 1) f
  tabulated_turn l p v e h g = rw (tabulate_more p, ← e, ← g, add-one p) (take-suc-set l p v h)

  pub tabulated_end : (l : List A) (p : ℕ) → take p l ≡ tabulate p f → p ≡ length l → l ≡ tabulate p f
  tabulated_end l p e h = sym (take-length l) ∙ ap (λ (k : ℕ). take k l) (sym h) ∙ e
