-- Rows in lent words: w words to a row, block b's at w * b.
-- Assumes nothing.
use Rattle.std.specs.Prelude.{◌≡◌, false, List, ℕ, ◌+◌, ◌*◌, ◌-◌, ◌/◌, ◌%◌, ◌^◌, ◌≤◌, ◌<◌, length, get_or, set}
use Rattle.std.proofs.Common.{sym, ap, ◌∙◌, mul-suc, mul-le-mul_left, arith, length-set, get_or-set_same, get_or-set_other, ext_get_or}
use Rattle.std.proofs.Math.Nat.{zero-div}
use Rattle.std.proofs.Math.Decide.{ℕ_discrete, dec_le}
use Rattle.std.proofs.Math.ListN.{get_or-eq_default}
use borrow.Rule.Slice.PartMut.{mid_of, put_mid}
use Rattle.words.specs.laws.Bits.{member}
use Rattle.words.specs.laws.Regions.{mid_long, get_mid, put_long, mid_put, get_before, get_after}
use Rattle.liveness.specs.Live.{Row}

abbrev pub row_at : ℕ → List ℕ → ℕ → List ℕ
row_at w l b = mid_of (w * b) w l

-- a set holds the slots of a row, and none past its end
abbrev pub Holds : List ℕ → Row → Type 0
Holds l r = (t : ℕ) → member l t ≡ get_or r t false

pub record Shown (w : ℕ) (none : Row) (rows : List Row) (l : List ℕ) : Type 0 where
  pub long : length l ≡ w * length rows
  pub held : (b : ℕ) → b < length rows → Holds (row_at w l b) (get_or rows b none)

-- a row ends before the next one starts, and in the words
pub row_before : (w a b : ℕ) → a < b → w * a + w ≤ w * b
row_before w a b h = rw (← mul-suc w a) (mul-le-mul_left w h)

pub member_past : (l : List ℕ) (t : ℕ) → 64 * length l ≤ t → member l t ≡ false
unfolding member
member_past l t h =
    let past : length l ≤ t / 64 = omega arith in
    rw (get_or-eq_default l 0 past, zero-div (2 ^ (t % 64)))

pub bit_past : (r : Row) (t : ℕ) → length r ≤ t → get_or r t false ≡ false
bit_past r t h = get_or-eq_default r false h

module _ (w : ℕ) (l ys : List ℕ) (b : ℕ) (fits : w * b + w ≤ length l) (long : length ys ≡ w) where
  pub row_same : row_at w (put_mid (w * b) w l ys) b ≡ ys
  row_same = mid_put l (w * b) w ys long fits

  pub row_other : (a : ℕ) → w * a + w ≤ length l → (a ≡ b → ⊥) → row_at w (put_mid (w * b) w l ys) a ≡ row_at w l a
  row_other a room d =
      let put : length (put_mid (w * b) w l ys) ≡ length l = put_long l (w * b) w ys long fits in
      let room' : w * a + w ≤ length (put_mid (w * b) w l ys) = rw put room in
      let e : length (row_at w (put_mid (w * b) w l ys) a) ≡ w = mid_long (put_mid (w * b) w l ys) (w * a) w room' in
      ext_get_or 0 (row_at w (put_mid (w * b) w l ys) a) (row_at w l a) (e ∙ sym (mid_long l (w * a) w room))
      (λ i h. let k : i < w = rw e at h in get_mid (put_mid (w * b) w l ys) (w * a) w i 0 k ∙ same i k ∙ sym (get_mid l (w * a) w i 0 k))
    where
      same : (i : ℕ) → i < w → get_or (put_mid (w * b) w l ys) (w * a + i) 0 ≡ get_or l (w * a + i) 0
      same i k = elim (dec_le b a) [
        | yes g ↦
            let after : w * b + w ≤ w * a = row_before w b a (omega arith) in
            let at : w * a + i ≡ w * b + w + (w * a + i - (w * b + w)) = omega arith in
            ap (λ (j : ℕ). get_or (put_mid (w * b) w l ys) j 0) at ∙ get_after l (w * b) w ys long fits (w * a + i - (w * b + w)) 0 ∙ ap (λ (j : ℕ). get_or l j 0) (sym at)
        | no g ↦
            let before : w * a + w ≤ w * b = row_before w a b (omega arith) in
            get_before l (w * b) w ys long fits (w * a + i) 0 (omega arith)
      ]

-- a row more
pub shown_set : (w : ℕ) (none : Row) (rows : List Row) (l ys : List ℕ) (b : ℕ) (r : Row) → Shown w none rows l → b < length rows → length ys ≡ w → Holds ys r → Shown w none (set rows b r) (put_mid (w * b) w l ys)
shown_set w none rows l ys b r s h e f = record { long = long; held = held }
  where
    inside : (a : ℕ) → a < length rows → w * a + w ≤ length l
    inside a g = rw s.long (row_before w a (length rows) g)

    long : length (put_mid (w * b) w l ys) ≡ w * length (set rows b r)
    long = put_long l (w * b) w ys e (inside b h) ∙ s.long ∙ rw (length-set rows b r)

    held : (a : ℕ) → a < length (set rows b r) → Holds (row_at w (put_mid (w * b) w l ys) a) (get_or (set rows b r) a none)
    held a g t =
        let room : a < length rows = rw (length-set rows b r) at g in
        elim (ℕ_discrete a b) [
          | yes d ↦ rw (d, row_same w l ys b (inside b h) e, get_or-set_same rows b r none h) (f t)
          | no d ↦ rw (row_other w l ys b (inside b h) e a (inside a room) d, get_or-set_other rows b a r none d) (s.held a room t)
        ]
