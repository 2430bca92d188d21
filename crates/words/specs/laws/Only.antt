-- What a list still holds after some of its places were written.
-- Assumes nothing.
use Rattle.std.specs.Prelude.{◌≡◌, ℕ, ◌+◌, ◌-◌, ◌<◌, ◌≤◌, ◌⊎◌, List, length, slice_index, slice_set, refl}
use Rattle.std.proofs.Common.{sym, ap, ◌∙◌, inl, inr, arith, length-set, get_or-set_other, ext_get_or}
use Rattle.std.proofs.Math.Decide.{dec_le}
use Rattle.std.proofs.Math.ListN.{get_or-eq_default}
use borrow.Rule.Slice.PartMut.{mid_of, put_mid}
use Rattle.words.specs.laws.Regions.{mid_long, get_mid, put_long, mid_put, get_before, get_after}

-- a place of the region of k from a on
abbrev pub At : ℕ → ℕ → ℕ → Type 0
At a k j = (a ≤ j) × (j < a + k)

abbrev pub Either : (ℕ → Type 0) → (ℕ → Type 0) → ℕ → Type 0
Either P Q j = P j ⊎ Q j

-- only such places changed
pub record Only (P : ℕ → Type 0) (m m' : List ℕ) : Type 0 where
  pub long : length m' ≡ length m
  pub same : (j : ℕ) → (P j → ⊥) → slice_index m' j ≡ slice_index m j

pub only_none : (P : ℕ → Type 0) (m : List ℕ) → Only P m m
only_none P m = record { long = refl; same = λ j n. refl }

pub only_both : (P : ℕ → Type 0) (m m₁ m₂ : List ℕ) → Only P m m₁ → Only P m₁ m₂ → Only P m m₂
only_both P m m₁ m₂ o p = record { long = p.long ∙ o.long; same = λ j n. p.same j n ∙ o.same j n }

pub only_more : (P Q : ℕ → Type 0) (m m' : List ℕ) → ((j : ℕ) → P j → Q j) → Only P m m' → Only Q m m'
only_more P Q m m' f o = record { long = o.long; same = λ j n. o.same j (λ i. n (f j i)) }

-- lists that agree within two regions of one length
same_part : (m m' : List ℕ) (b c k : ℕ) → b + k ≤ length m → c + k ≤ length m' → ((i : ℕ) → i < k → slice_index m (b + i) ≡ slice_index m' (c + i)) → mid_of b k m ≡ mid_of c k m'
same_part m m' b c k h g f =
    let e : length (mid_of b k m) ≡ k = mid_long m b k h in
    ext_get_or 0 (mid_of b k m) (mid_of c k m') (e ∙ sym (mid_long m' c k g))
    (λ i q. let r : i < k = rw e at q in get_mid m b k i 0 r ∙ f i r ∙ sym (get_mid m' c k i 0 r))

-- a region of a region
pub mid_mid : (m : List ℕ) (b l i k : ℕ) → b + l ≤ length m → i + k ≤ l → mid_of i k (mid_of b l m) ≡ mid_of (b + i) k m
mid_mid m b l i k h g =
    same_part (mid_of b l m) m i (b + i) k (rw (mid_long m b l h) g) (omega arith)
    (λ j q. let e : b + (i + j) ≡ b + i + j = omega arith in get_mid m b l (i + j) 0 (omega arith) ∙ ap (λ (n : ℕ). slice_index m n) e)

module _ (m : List ℕ) (a k : ℕ) (h : a + k ≤ length m) where
  -- one place written
  pub only_set : (i v : ℕ) → i < k → Only (At a k) m (slice_set m (a + i) v)
  only_set i v q = record { long = length-set m (a + i) v; same = λ j n. get_or-set_other m (a + i) j v 0 (λ e. n (omega arith, omega arith)) }

  -- a part written
  module _ (ys : List ℕ) (e : length ys ≡ k) where
    pub only_put : Only (At a k) m (put_mid a k m ys)
    only_put = record { long = put_long m a k ys e h; same = same }
      where
        same : (j : ℕ) → (At a k j → ⊥) → slice_index (put_mid a k m ys) j ≡ slice_index m j
        same j n = elim (dec_le a j) [
          | yes g ↦
              elim (dec_le (a + k) j) [
                | yes f ↦
                    let at : j ≡ a + k + (j - (a + k)) = omega arith in
                    ap (λ (x : ℕ). slice_index (put_mid a k m ys) x) at ∙ get_after m a k ys e h (j - (a + k)) 0 ∙ ap (λ (x : ℕ). slice_index m x) (sym at)
                | no f ↦ absurd (n (g, omega arith))
              ]
          | no g ↦ get_before m a k ys e h j 0 (omega arith)
        ]

-- a part that was lent from a to a + k is back
pub lent : (m : List ℕ) (a k : ℕ) (ys : List ℕ) → a + k ≤ length m → length ys ≡ length (mid_of a (a + k - a) m)
    → Only (At a k) m (put_mid a (a + k - a) m ys) × (mid_of a k (put_mid a (a + k - a) m ys) ≡ ys)
lent m a k ys h e =
    let part : a + k - a ≡ k = omega arith in
    let long : length ys ≡ k = rw part at e ∙ mid_long m a k h in
    rw part (only_put m a k h ys long, mid_put m a k ys long h)

pub lent_long : (m : List ℕ) (a k : ℕ) → a + k ≤ length m → length (mid_of a (a + k - a) m) ≡ k
lent_long m a k h = let part : a + k - a ≡ k = omega arith in rw part (mid_long m a k h)

module _ (P : ℕ → Type 0) (m m' : List ℕ) (o : Only P m m') where
  -- a region with no such place is as it was
  pub same_mid : (b k : ℕ) → b + k ≤ length m → ((j : ℕ) → At b k j → P j → ⊥) → mid_of b k m' ≡ mid_of b k m
  same_mid b k h f = same_part m' m b b k (rw o.long h) h (λ i q. o.same (b + i) (f (b + i) (omega arith, omega arith)))

-- regions of a list after a part of it was written: within the part, before it and after it
module _ (xs : List ℕ) (a k : ℕ) (ys : List ℕ) (h : a + k ≤ length xs) (e : length ys ≡ k) where
  pub back_within : (i j : ℕ) → i + j ≤ k → mid_of (a + i) j (put_mid a k xs ys) ≡ mid_of i j ys
  back_within i j g = sym (mid_mid (put_mid a k xs ys) a k i j (rw (put_long xs a k ys e h) h) g) ∙ ap (λ (l : List ℕ). mid_of i j l) (mid_put xs a k ys e h)

  pub back_before : (b j : ℕ) → b + j ≤ a → mid_of b j (put_mid a k xs ys) ≡ mid_of b j xs
  back_before b j g = same_mid (At a k) xs (put_mid a k xs ys) (only_put xs a k h ys e) b j (omega arith) (λ i q r. omega (arith, q.1, r.0))

  pub back_after : (b j : ℕ) → a + k ≤ b → b + j ≤ length xs → mid_of b j (put_mid a k xs ys) ≡ mid_of b j xs
  back_after b j g f = same_mid (At a k) xs (put_mid a k xs ys) (only_put xs a k h ys e) b j f (λ i q r. omega (arith, q.0, r.1))

-- two parts that were lent one after the other, first the one that lies behind
pub record Both (a b k : ℕ) (m m₁ m₂ xs ys : List ℕ) : Type 0 where
  pub only : Only (Either (At a k) (At b k)) m m₂
  pub low : mid_of a k m₂ ≡ xs
  pub high : mid_of b k m₂ ≡ ys
  pub was : mid_of a (a + k - a) m₁ ≡ mid_of a k m

pub both_lent : (m : List ℕ) (a b k : ℕ) (xs ys m₁ : List ℕ) → a + k ≤ b → b + k ≤ length m → m₁ ≡ put_mid b (b + k - b) m ys → length ys ≡ length (mid_of b (b + k - b) m)
    → length xs ≡ length (mid_of a (a + k - a) m₁) → Both a b k m m₁ (put_mid a (a + k - a) m₁ xs) xs ys
both_lent m a b k xs ys m₁ h g e ly lx =
    let part : a + k - a ≡ k = omega arith in
    let y : Only (At b k) m m₁ × (mid_of b k m₁ ≡ ys) = rw e (lent m b k ys g ly) in
    let room : a + k ≤ length m₁ = omega (arith, y.0.long) in
    let x = lent m₁ a k xs room lx in
    let m₂ = put_mid a (a + k - a) m₁ xs in
    record {
      only = only_both (Either (At a k) (At b k)) m m₁ m₂ (only_more (At b k) (Either (At a k) (At b k)) m m₁ (λ j i. inr i) y.0) (only_more (At a k) (Either (At a k) (At b k)) m₁ m₂ (λ j i. inl i) x.0);
      low = x.1;
      high = same_mid (At a k) m₁ m₂ x.0 b k (rw y.0.long g) (λ j i n. omega (arith, i.0, n.1)) ∙ y.1;
      was = rw part (same_mid (At b k) m m₁ y.0 a k (omega arith) (λ j i n. omega (arith, i.1, n.0)));
    }

-- the second part's length
pub second_long : (m : List ℕ) (a b k : ℕ) (ys : List ℕ) → a + k ≤ b → b + k ≤ length m → length ys ≡ length (mid_of b (b + k - b) m)
    → length (mid_of a (a + k - a) (put_mid b (b + k - b) m ys)) ≡ k
second_long m a b k ys h g e =
    let room : a + k ≤ length (put_mid b (b + k - b) m ys) = omega (arith, (lent m b k ys g e).0.long) in
    lent_long (put_mid b (b + k - b) m ys) a k room

-- the whole, of the region that changed
pub put_only : (a k : ℕ) (m m' : List ℕ) → Only (At a k) m m' → a + k ≤ length m → m' ≡ put_mid a k m (mid_of a k m')
put_only a k m m' o h = ext_get_or 0 m' (put_mid a k m (mid_of a k m')) (o.long ∙ sym other.long) each
  where
    part : length (mid_of a k m') ≡ k
    part = mid_long m' a k (rw o.long h)

    other : Only (At a k) m (put_mid a k m (mid_of a k m'))
    other = only_put m a k h (mid_of a k m') part

    outside : (j : ℕ) → (At a k j → ⊥) → slice_index m' j ≡ slice_index (put_mid a k m (mid_of a k m')) j
    outside j n = o.same j n ∙ sym (other.same j n)

    each : (j : ℕ) → j < length m' → slice_index m' j ≡ slice_index (put_mid a k m (mid_of a k m')) j
    each j q = elim (dec_le a j) [
      | yes g ↦
          elim (dec_le (a + k) j) [
            | yes f ↦ outside j (λ i. omega (arith, i.1))
            | no f ↦
                let at : j ≡ a + (j - a) = omega arith in
                let r : j - a < k = omega arith in
                ap (λ (x : ℕ). slice_index m' x) at
                ∙ sym (get_mid m' a k (j - a) 0 r)
                ∙ ap (λ (l : List ℕ). slice_index l (j - a)) (sym (mid_put m a k (mid_of a k m') part h))
                ∙ get_mid (put_mid a k m (mid_of a k m')) a k (j - a) 0 r
                ∙ ap (λ (x : ℕ). slice_index (put_mid a k m (mid_of a k m')) x) (sym at)
          ]
      | no g ↦ outside j (λ i. omega (arith, i.0))
    ]

-- a region of which only a part changed
pub put_mid_lem : (P : ℕ → Type 0) (m m' : List ℕ) (b l i k : ℕ) → Only P m m' → b + l ≤ length m → i + k ≤ l → ((j : ℕ) → At b l j → P j → At (b + i) k j)
    → mid_of b l m' ≡ put_mid i k (mid_of b l m) (mid_of (b + i) k m')
put_mid_lem P m m' b l i k o h g f =
    rw (← mid_mid m' b l i k (rw o.long h) g) (put_only i k (mid_of b l m) (mid_of b l m') inner (rw (mid_long m b l h) g))
  where
    long : length (mid_of b l m') ≡ l
    long = mid_long m' b l (rw o.long h)

    same : (j : ℕ) → (At i k j → ⊥) → slice_index (mid_of b l m') j ≡ slice_index (mid_of b l m) j
    same j n = elim (dec_le l j) [
      | yes q ↦ get_or-eq_default (mid_of b l m') 0 (rw long q) ∙ sym (get_or-eq_default (mid_of b l m) 0 (rw (mid_long m b l h) q))
      | no q ↦
          let r : j < l = omega arith in
          get_mid m' b l j 0 r
          ∙ o.same (b + j) (λ x. let y = f (b + j) (omega arith, omega arith) x in n (omega (arith, y.0), omega (arith, y.1)))
          ∙ sym (get_mid m b l j 0 r)
    ]

    inner : Only (At i k) (mid_of b l m) (mid_of b l m')
    inner = record { long = long ∙ sym (mid_long m b l h); same = same }
