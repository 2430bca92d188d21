-- Lists of 0 and 1, and their sums: how many are 1 below a place.
-- Assumes nothing.
use Rattle.std.specs.Prelude.{◌≡◌, ℕ, zero, suc, ◌+◌, ◌-◌, ◌<◌, ◌≤◌, ◌⊎◌, List, [], ◌∷◌, length, take, slice_index, refl}
use Rattle.std.proofs.Common.{sym, ap, ◌∙◌, inl, inr, add-one, arith}
use Rattle.std.proofs.Math.Seq.{take-length}
use Rattle.words.specs.Lists.{sum}
use Rattle.words.specs.laws.Lists.{sum_take}
use Rattle.flow.specs.laws.Marks.{Marked, Grew, none, off, on, new}

abbrev pub Flags : List ℕ → Type 0
Flags l = (p : ℕ) → slice_index l p ≤ 1

-- marks are flags
pub grew_flags : {a b : List ℕ} → Grew a b → Flags b
grew_flags none p = omega arith
grew_flags (off g) zero = omega arith
grew_flags (on g) zero = omega arith
grew_flags (new g) zero = omega arith
grew_flags (off g) (suc p) = grew_flags g p
grew_flags (on g) (suc p) = grew_flags g p
grew_flags (new g) (suc p) = grew_flags g p

pub flag : (l : List ℕ) → Flags l → (p : ℕ) → (slice_index l p ≡ 0) ⊎ Marked l p
flag l f p = go (slice_index l p) (f p)
  where
    go : (v : ℕ) → v ≤ 1 → (v ≡ 0) ⊎ (v ≡ 1)
    go zero h = inl refl
    go (suc v) h = inr (omega arith)

-- sums of a front part
pub sum_whole : (l : List ℕ) → sum (take (length l) l) ≡ sum l
sum_whole l = ap sum (take-length l)

pub sum_mono : (l : List ℕ) (a b : ℕ) → a ≤ b → sum (take a l) ≤ sum (take b l)
unfolding sum
sum_mono l zero b h = omega arith
sum_mono [] (suc a) b h = omega arith
sum_mono (x ∷ l) (suc a) zero h = absurd (omega arith)
sum_mono (x ∷ l) (suc a) (suc b) h = let r = sum_mono l a b (omega arith) in omega arith

-- distances do not grow
pub sum_gap : (l : List ℕ) → Flags l → (a b : ℕ) → a ≤ b → sum (take b l) ≤ sum (take a l) + (b - a)
unfolding sum
sum_gap [] f a zero h = omega arith
sum_gap [] f a (suc b) h = omega arith
sum_gap (x ∷ l) f zero zero h = omega arith
sum_gap (x ∷ l) f zero (suc b) h = let r = sum_gap l (λ p. f (suc p)) zero b (omega arith) in let one = f 0 in omega arith
sum_gap (x ∷ l) f (suc a) zero h = absurd (omega arith)
sum_gap (x ∷ l) f (suc a) (suc b) h = let r = sum_gap l (λ p. f (suc p)) a b (omega arith) in omega arith

pub sum_most : (l : List ℕ) → Flags l → (p : ℕ) → sum (take p l) ≤ p
unfolding sum
sum_most l f p = let r = sum_gap l f 0 p (omega arith) in omega arith

-- the sum up to a place and its own flag
pub sum_next : (l : List ℕ) (p : ℕ) → p < length l → sum (take (suc p) l) ≡ sum (take p l) + slice_index l p
sum_next l p h = ap (λ (k : ℕ). sum (take k l)) (sym (add-one p)) ∙ sum_take l p h

pub sum_first : (l : List ℕ) (p : ℕ) → Marked l 0 → 0 < p → 1 ≤ sum (take p l)
unfolding sum
sum_first l zero m h = absurd (omega arith)
sum_first [] (suc p) m h = absurd (omega arith)
sum_first (x ∷ l) (suc p) m h = omega arith
