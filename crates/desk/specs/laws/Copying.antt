-- Words copied within a frame, one by one from below and from above.
-- Assumes nothing.
use Rattle.std.specs.Prelude.{◌≡◌, ℕ, ◌+◌, ◌-◌, ◌<◌, ◌≤◌, List, [], ◌∷◌, ◌++◌, length, take, drop, set, slice_index, slice_index_or, slice_set, refl}
use Rattle.std.proofs.Common.{sym, ap, ◌∙◌, add-zero, arith, take-append-drop, drop-set-lt, length-take-le}
use Rattle.std.proofs.Math.Nat.{sub-zero}
use Rattle.std.proofs.Math.Seq.{take-set-lt}
use Rattle.std.proofs.lemmas.List.{set-append_left}
use borrow.Rule.Slice.PartMut.{mid_of, post_of, put_mid}
use Rattle.words.specs.laws.Regions.{mid_long, mid_more, mid_add, put_one, put_more, put_put, get_before, get_after}

-- the element before a region that was written
pub put_front : (xs ys : List ℕ) (m j v : ℕ) → length ys ≡ j → m + 1 + j ≤ length xs → slice_set (put_mid (m + 1) j xs ys) m v ≡ put_mid m (1 + j) xs (v ∷ ys)
put_front xs ys m j v e h =
    let long : length (take (m + 1) xs) ≡ m + 1 = length-take-le (m + 1) xs (omega arith) in
    let R = ys ++ post_of (m + 1) j xs in
    let left : set (take (m + 1) xs ++ R) m v ≡ slice_set (take (m + 1) xs) m v ++ R = set-append_left (take (m + 1) xs) R m v (rw long (omega arith)) in
    let first : take (m + 1) (slice_set xs m v) ≡ set (take (m + 1) xs) m v = take-set-lt (m + 1) xs m v (omega arith) in
    let rest : drop (m + 1) (slice_set xs m v) ≡ drop (m + 1) xs = drop-set-lt (m + 1) xs m v (omega arith) in
    let one : put_mid (m + 1) j (slice_set xs m v) ys ≡ put_mid m (1 + j) xs (v ∷ ys) =
    rw (put_one xs m v (omega arith)) (put_put xs m 1 (v ∷ []) refl (omega arith) j ys) in
    left ∙ sym (rw (first, rest) refl) ∙ one

-- no word copied
pub none_copied : (f : List ℕ) (a b c : ℕ) → c ≡ 0 → f ≡ put_mid a c f (mid_of b c f)
none_copied f a b c e = rw e (sym (take-append-drop a f))

module _ (f : List ℕ) (a b c : ℕ) where
  -- k words copied from below
  abbrev pub copied_up : ℕ → List ℕ
  copied_up k = put_mid a k f (mid_of b k f)

  -- all but the first k
  abbrev pub copied_down : ℕ → List ℕ
  copied_down k = put_mid (a + k) (c - k) f (mid_of (b + k) (c - k) f)

  pub up_more : (g : List ℕ) (k v : ℕ) → a < b → b + c ≤ length f → k < c → g ≡ copied_up k → v ≡ slice_index g (b + k) → slice_set g (a + k) v ≡ copied_up (k + 1)
  up_more g k v o h l e w =
      let long = mid_long f b k (omega arith) in
      let read : slice_index_or (copied_up k) (b + k) 0 ≡ slice_index_or f (b + k) 0 =
      (let at : a + k + (b - a) ≡ b + k = omega arith in rw at at (get_after f a k (mid_of b k f) long (omega arith) (b - a) 0)) in
      rw (e, put_more f a k (mid_of b k f) long (omega arith) v (omega arith), mid_more f b k 0 (omega arith), w, e, read) refl

  pub down_more : (g : List ℕ) (k m v : ℕ) → b ≤ a → a + c ≤ length f → k ≤ c → m + 1 ≡ k → g ≡ copied_down k → v ≡ slice_index g (b + m) → slice_set g (a + m) v ≡ copied_down m
  down_more g k m v o h l s e w =
      let ys = mid_of (b + k) (c - k) f in
      let long = mid_long f (b + k) (c - k) (omega arith) in
      let read : slice_index_or (copied_down k) (b + m) 0 ≡ slice_index_or f (b + m) 0 = get_before f (a + k) (c - k) ys long (omega arith) (b + m) 0 (omega arith) in
      let start : a + k ≡ a + m + 1 = omega arith in
      let rest : c - m ≡ 1 + (c - k) = omega arith in
      let more : mid_of (b + m) (1 + (c - k)) f ≡ slice_index f (b + m) ∷ ys = first_more in
      rw (e, start, put_front f ys (a + m) (c - k) v long (omega arith), w, e, read, rest, more) refl
    where
      first_more : mid_of (b + m) (1 + (c - k)) f ≡ slice_index f (b + m) ∷ mid_of (b + k) (c - k) f
      first_more =
          let at : b + m + 1 ≡ b + k = omega arith in
          let zero : b + m + 0 ≡ b + m = omega arith in
          let one : mid_of (b + m) (0 + 1) f ≡ mid_of (b + m) 0 f ++ (slice_index f (b + m) ∷ []) = rw zero at (mid_more f (b + m) 0 0 (omega arith)) in
          mid_add f (b + m) 1 (c - k) ∙ rw (at) (ap (λ (l : List ℕ). l ++ mid_of (b + k) (c - k) f) one)

  -- none is left
  pub copied_all : (g : List ℕ) (k : ℕ) → k ≤ 0 → g ≡ copied_down k → g ≡ put_mid a c f (mid_of b c f)
  copied_all g k h e = let none : k ≡ 0 = omega arith in rw (none, add-zero a, add-zero b, sub-zero c) at e
