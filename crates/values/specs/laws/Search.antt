-- The laws of `newest`, and a look-up's walk along a path.
-- Assumes nothing.
use Rattle.std.specs.Prelude.{◌≡◌, ℕ, zero, suc, ◌-◌, ◌*◌, ◌/◌, ◌^◌, ◌<◌, ◌≤◌, Bool, true, false, cond, List, ◌==◌, ◌≢◌, nat_lt}
use Rattle.std.proofs.Math.Path.{refl}
use Rattle.std.proofs.Common.{sym, ap, ◌∙◌, mul-lt-mul_of_pos_right, mul-le-mul, eqb-true, eq-eqb, ltb-true}
use native.Mathlib.Omega.{arith}
use Rattle.words.specs.laws.Truth.{both}
use Rattle.values.specs.laws.Entries.{Key, key, key_at, links, child_of, mixed, bucket_of, head_at, same_key, newest, Leads, here, down, Linked}

pub same_key_lem : (k l : Key) → same_key k l ≡ true → k ≡ l
unfolding same_key
same_key_lem k l e =
    let p = both (k.left == l.left) (k.right == l.right) e in
    ap (λ (x : ℕ). key x k.right) (eqb-true k.left l.left p.0) ∙ ap (λ (x : ℕ). key l.left x) (eqb-true k.right l.right p.1)

pub key_same : (k : Key) → same_key k k ≡ true
unfolding same_key
key_same k = rw (eq-eqb k.left k.left refl, eq-eqb k.right k.right refl)

module _ (w : List ℕ) (h : ℕ) (k : Key) where
  pub newest_le : (n : ℕ) → newest w h n k ≤ n
  unfolding newest
  newest_le zero = omega arith
  newest_le (suc n) = go (same_key (key_at w h n) k) (newest w h n k) (newest_le n)
    where
      go : (t : Bool) (r : ℕ) → r ≤ n → cond t (suc n) r ≤ suc n
      go true r l = omega arith
      go false r l = omega arith

  -- what is found has the key
  pub newest_key : (n j : ℕ) → newest w h n k ≡ suc j → (j < n) × (key_at w h j ≡ k)
  unfolding newest
  newest_key zero j = λ e. absurd (omega arith)
  newest_key (suc n) j = go (same_key (key_at w h n) k) refl (newest_key n j)
    where
      go : (t : Bool) → same_key (key_at w h n) k ≡ t → (newest w h n k ≡ suc j → (j < n) × (key_at w h j ≡ k)) → cond t (suc n) (newest w h n k) ≡ suc j → (j < suc n) × (key_at w h j ≡ k)
      go true e f q = let z : j ≡ n = omega arith in rw z (omega arith, same_key_lem (key_at w h n) k e)
      go false e f q = let r = f q in (omega (arith, r.0), r.1)

-- a number of 32 bits, scaled to h
pub scaled_low : (m h : ℕ) → m < 4294967296 → 0 < h → m * h / 4294967296 < h
scaled_low m h l p = let q : m * h < 4294967296 * h = mul-lt-mul_of_pos_right l p in omega arith

pub scaled_fits : (m h : ℕ) → m < 4294967296 → h ≤ 65536 → m * h < 2 ^ 64
scaled_fits m h l p =
    let x : m ≤ 4294967295 = omega arith in
    let q : m * h ≤ 4294967295 * 65536 = mul-le-mul x p in
    omega arith

pub bucket_low : (h : ℕ) (k : Key) → 0 < h → bucket_of h k < h
unfolding bucket_of mixed
bucket_low h k l = go (nat_lt k.left h) refl
  where
    go : (t : Bool) → nat_lt k.left h ≡ t → cond t k.left (mixed k / 4294967296 * h / 4294967296) < h
    go true e = ltb-true k.left h e
    go false e = scaled_low (mixed k / 4294967296) h (omega arith) l

-- no path leads on from 0
pub leads_none : {w : List ℕ} {h path j : ℕ} → Leads w h path 0 (suc j) → ⊥
leads_none = elim [ ]

-- a step of a walk, at entry p - 1
pub leads_on : {w : List ℕ} {h path p q : ℕ} → Leads w h path p q → (p ≢ q) → Leads w h (path / 2) (child_of (links w h (p - 1)) path) q
leads_on here n = absurd (n refl)
leads_on (down {j = j} r) n = let z : suc j - 1 ≡ j = omega arith in rw z r

pub leads_from : {w : List ℕ} {h path p q : ℕ} → 0 < p → Leads w h (path / 2) (child_of (links w h (p - 1)) path) q → Leads w h path p q
leads_from {p} l r = let up : p ≡ suc (p - 1) = omega arith in rw up (down r)

-- the number of entries that a walk at p may still visit
unfoldable pub ahead : ℕ → ℕ → ℕ
ahead count zero = 0
ahead count (suc j) = count - j

pub ahead_less : (count p q : ℕ) → 0 < p → p ≤ count → q ≤ count → (0 < q → p < q) → ahead count q < ahead count p
unfolding ahead
ahead_less count zero q l m n f = absurd (omega arith)
ahead_less count (suc i) zero l m n f = omega arith
ahead_less count (suc i) (suc j) l m n f = let z = f (omega arith) in omega arith

-- a look-up's walk, at p, with what is left of the path: p is 0 or 1 + an entry, and the key's entry is led to
pub record Walk (w : List ℕ) (h count : ℕ) (k : Key) (path p : ℕ) : Type 0 where
  pub low : p ≤ count
  pub rest : (j : ℕ) → newest w h count k ≡ suc j → Leads w h path p (suc j)

module _ {w : List ℕ} {h epoch count : ℕ} {k : Key} (g : Linked w h epoch count) where
  -- from the head of the key's bucket
  pub walk_start : {p : ℕ} → p ≡ head_at w epoch (bucket_of h k) → Walk w h count k k.left p
  walk_start f =
      record {
        low = rw f (g.heads (bucket_of h k) (bucket_low h k g.some));
        rest = λ j q. let found = newest_key w h k count j q in rw (f, ← found.1) (g.reached j found.0);
      }

  -- a turn, at entry p - 1
  module _ {path p : ℕ} (s : Walk w h count k path p) (l : 0 < p) where
    inside : p - 1 < count
    inside = omega (arith, s.low)

    up : suc (p - 1) ≡ p
    up = omega arith

    pub walk_hit : {t : Bool} → t ≡ same_key (key_at w h (p - 1)) k → t ≡ true → p ≡ newest w h count k
    walk_hit e f = sym (rw (← same_key_lem (key_at w h (p - 1)) k (sym e ∙ f)) (g.once (p - 1) inside) ∙ up)

    module _ {q : ℕ} (n : q ≡ child_of (links w h (p - 1)) path) where
      pub walk_less : ahead count q < ahead count p
      walk_less = ahead_less count p q l s.low (rw n (g.forward.low (p - 1) path inside)) (λ m. rw n (omega (arith, g.forward.later (p - 1) path inside (rw n at m))))

      pub walk_on : {t : Bool} → t ≡ same_key (key_at w h (p - 1)) k → t ≡ false → Walk w h count k (path / 2) q
      walk_on e f =
          record {
            low = rw n (g.forward.low (p - 1) path inside);
            rest = λ j r. rw n (leads_on (s.rest j r) (λ z.
                let y : p - 1 ≡ j = omega arith in
                let x : same_key (key_at w h (p - 1)) k ≡ true = rw (y, (newest_key w h k count j r).1) (key_same k) in
                let u : true ≡ false = sym x ∙ sym e ∙ f in
                let v : ◌≡◌ {A = ℕ} 0 1 = cc in
                omega arith));
          }

pub walk_end : {w : List ℕ} {h count : ℕ} {k : Key} {path p : ℕ} → Walk w h count k path p → p ≤ 0 → 0 ≡ newest w h count k
walk_end {w} {h} {count} {k} {path} {p} s l = go (newest w h count k) refl
  where
    none : p ≡ 0
    none = omega arith

    go : (r : ℕ) → newest w h count k ≡ r → 0 ≡ newest w h count k
    go zero e = sym e
    go (suc j) e = absurd (leads_none (rw none at (s.rest j e)))
