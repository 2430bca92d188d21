-- Lists of marks, 0 or 1, that grow.
-- Assumes nothing.
use Rattle.std.specs.Prelude.{◌≡◌, ℕ, zero, suc, ◌+◌, ◌<◌, ◌≤◌, ◌⊎◌, List, [], ◌∷◌, length, replicate, slice_index, slice_set, refl}
use Rattle.std.proofs.Common.{sym, ap, ◌∙◌, inl, inr, arith, ext_get_or}
use mathlib.Core.List.{Memᴰ}
use Rattle.words.specs.Lists.{sum}

abbrev pub In : ℕ → List ℕ → Type 0
In q l = Memᴰ q l

abbrev pub Marked : List ℕ → ℕ → Type 0
Marked m p = slice_index m p ≡ 1

-- b has the marks of a, and maybe more; both hold only 0 and 1
pub data Grew : List ℕ → List ℕ → Type 0 where
  none : Grew [] []
  off : {a b : List ℕ} → Grew a b → Grew (0 ∷ a) (0 ∷ b)
  on : {a b : List ℕ} → Grew a b → Grew (1 ∷ a) (1 ∷ b)
  new : {a b : List ℕ} → Grew a b → Grew (0 ∷ a) (1 ∷ b)

pub grew_set : {a b : List ℕ} → Grew a b → (q : ℕ) → Grew a (slice_set b q 1)
grew_set none q = none
grew_set (off g) zero = new g
grew_set (on g) zero = on g
grew_set (new g) zero = new g
grew_set (off g) (suc q) = off (grew_set g q)
grew_set (on g) (suc q) = on (grew_set g q)
grew_set (new g) (suc q) = new (grew_set g q)

pub grew_self : {a b : List ℕ} → Grew a b → Grew b b
grew_self none = none
grew_self (off g) = off (grew_self g)
grew_self (on g) = on (grew_self g)
grew_self (new g) = on (grew_self g)

pub grew_zeros : (n : ℕ) → Grew (replicate n 0) (replicate n 0)
grew_zeros zero = none
grew_zeros (suc n) = off (grew_zeros n)

pub no_marks : (k q : ℕ) → Marked (replicate k 0) q → ⊥
no_marks zero q e = omega arith
no_marks (suc k) zero e = omega arith
no_marks (suc k) (suc q) e = no_marks k q e

pub sum_zeros : (k : ℕ) → sum (replicate k 0) ≡ 0
unfolding sum
sum_zeros zero = refl
sum_zeros (suc k) = let h = sum_zeros k in omega arith

pub grew_kept : {a b : List ℕ} → Grew a b → (p : ℕ) → Marked a p → Marked b p
grew_kept none p e = e
grew_kept (off g) zero e = e
grew_kept (on g) zero e = e
grew_kept (new g) zero e = refl
grew_kept (off g) (suc p) e = grew_kept g p e
grew_kept (on g) (suc p) e = grew_kept g p e
grew_kept (new g) (suc p) e = grew_kept g p e

pub grew_long : {a b : List ℕ} → Grew a b → length b ≡ length a
grew_long none = refl
grew_long (off g) = ap suc (grew_long g)
grew_long (on g) = ap suc (grew_long g)
grew_long (new g) = ap suc (grew_long g)

pub sum_grew : {a b : List ℕ} → Grew a b → (sum a ≤ sum b) × (sum b ≤ length b)
unfolding sum
sum_grew none = (omega arith, omega arith)
sum_grew (off g) = let h = sum_grew g in (omega arith, omega arith)
sum_grew (on g) = let h = sum_grew g in (omega arith, omega arith)
sum_grew (new g) = let h = sum_grew g in (omega arith, omega arith)

-- nothing changed, or there is a mark more
pub same_or_more : {a b : List ℕ} → Grew a b → (a ≡ b) ⊎ (sum a < sum b)
unfolding sum
same_or_more none = inl refl
same_or_more (off g) = elim (same_or_more g) [ inl e ↦ inl (ap (λ (l : List ℕ). 0 ∷ l) e) | inr h ↦ inr (omega arith) ]
same_or_more (on g) = elim (same_or_more g) [ inl e ↦ inl (ap (λ (l : List ℕ). 1 ∷ l) e) | inr h ↦ inr (omega arith) ]
same_or_more (new g) = let h = sum_grew g in inr (omega arith)

pub bit : {a b : List ℕ} → Grew a b → (p : ℕ) → (slice_index b p ≡ 0) ⊎ Marked b p
bit none p = inl refl
bit (off g) zero = inl refl
bit (on g) zero = inr refl
bit (new g) zero = inr refl
bit (off g) (suc p) = bit g p
bit (on g) (suc p) = bit g p
bit (new g) (suc p) = bit g p

-- a place marked anew
pub sum_set : {a b : List ℕ} → Grew a b → (p : ℕ) → p < length b → slice_index b p ≡ 0 → sum (slice_set b p 1) ≡ sum b + 1
unfolding sum
sum_set none p h e = absurd (omega arith)
sum_set (off g) zero h e = omega arith
sum_set (on g) zero h e = absurd (omega arith)
sum_set (new g) zero h e = absurd (omega arith)
sum_set (off g) (suc p) h e = let c = sum_set g p (omega arith) e in omega arith
sum_set (on g) (suc p) h e = let c = sum_set g p (omega arith) e in omega arith
sum_set (new g) (suc p) h e = let c = sum_set g p (omega arith) e in omega arith

pub marked_set : (m : List ℕ) (q p : ℕ) → Marked (slice_set m q 1) p → ((p ≡ q) × (q < length m)) ⊎ Marked m p
marked_set [] q p e = inr e
marked_set (x ∷ m) zero zero e = inl (refl, omega arith)
marked_set (x ∷ m) zero (suc p) e = inr e
marked_set (x ∷ m) (suc q) zero e = inr e
marked_set (x ∷ m) (suc q) (suc p) e = elim (marked_set m q p e) [ inl h ↦ inl (ap suc h.0, omega (arith, h.1)) | inr h ↦ inr h ]

-- the same marks, the same list
pub same_marks : {a b : List ℕ} → Grew a a → Grew b b → length a ≡ length b → ((p : ℕ) → Marked a p → Marked b p) → ((p : ℕ) → Marked b p → Marked a p) → a ≡ b
same_marks {a} {b} g h l to from = ext_get_or 0 a b l (λ i lt. go i (bit g i) (bit h i))
  where
    go : (i : ℕ) → (slice_index a i ≡ 0) ⊎ Marked a i → (slice_index b i ≡ 0) ⊎ Marked b i → slice_index a i ≡ slice_index b i
    go i (inr x) y = x ∙ sym (to i x)
    go i (inl x) (inl y) = x ∙ sym y
    go i (inl x) (inr y) = from i y ∙ sym y
