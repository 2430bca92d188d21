-- Regions of one list: `mid_of b k xs` are its k elements from b on, and `put_mid a k xs ys` is xs with ys in the
-- place of its k elements from a on (both of the library). A region is (start, length); it lies within xs where
-- start + length ≤ length xs.
-- Assumes nothing.
use Rattle.std.specs.Prelude.{◌≡◌, ℕ, ◌+◌, ◌<◌, ◌≤◌, List, [], ◌∷◌, ◌++◌, map, length, get_or, take, drop, slice_index, slice_index_or, slice_set, refl}
use Rattle.std.proofs.Common.{sym, ap, ◌∙◌, append_assoc, add-one, arith, length-append, length-drop, drop-cons, take-suc, take-add, take-take, drop-drop, take_at, drop_at, get_or-take, get_or-drop, length-take-le, get_or-append-add, drop-set-lt}
use Rattle.std.proofs.lemmas.List.{map-append, length-map, set_at, set_split, take-append-le, take-set-le, drop-set-add}
use Rattle.std.proofs.Math.ListN.{get_or-append}
use Rattle.std.proofs.Math.Seq.{take-set-lt}
use borrow.Rule.Slice.PartMut.{put_mid, mid_of, post_of, same_len_mid, put_same}
use Rattle.words.specs.Lists.{tabulate}
use Rattle.words.specs.laws.Lists.{length_tabulate}
use Rattle.words.specs.laws.Tabulate.{tabulate_more}

module _ {X : Type 0} (xs : List X) where
  -- a region has as many elements as it says
  pub mid_long : (b k : ℕ) → b + k ≤ length xs → length (mid_of b k xs) ≡ k
  mid_long b k h =
      let le : k ≤ length (drop b xs) = simp length-drop (omega arith) in
      length-take-le k (drop b xs) le

  -- two neighbouring regions are one
  pub mid_add : (b j k : ℕ) → mid_of b (j + k) xs ≡ mid_of b j xs ++ mid_of (b + j) k xs
  mid_add b j k = take-add j k (drop b xs) ∙ ap (λ (l : List X). mid_of b j xs ++ take k l) (drop-drop j b xs)

  pub mid_more : (b k : ℕ) (d : X) → b + k < length xs → mid_of b (k + 1) xs ≡ mid_of b k xs ++ (slice_index_or xs (b + k) d ∷ [])
  mid_more b k d h =
      let room : k < length (drop b xs) = simp length-drop (omega arith) in
      rw (add-one k, take-suc (drop b xs) k d room, get_or-drop b xs k d)

  -- one element written
  pub put_one : (a : ℕ) (v : X) → a + 1 ≤ length xs → slice_set xs a v ≡ put_mid a 1 xs (v ∷ [])
  put_one a v h =
      let room : a < length xs = omega arith in
      rw (set_split xs a v room, drop-drop 1 a xs, add-one a)

  -- an element written in a region, before it and after it
  pub mid_set : (b k i : ℕ) (v : X) → i < k → mid_of b k (slice_set xs (b + i) v) ≡ slice_set (mid_of b k xs) i v
  mid_set b k i v h = ap (take k) (drop-set-add b xs i v) ∙ take-set-lt k (drop b xs) i v h

  pub mid_set_before : (b k j : ℕ) (v : X) → j < b → mid_of b k (slice_set xs j v) ≡ mid_of b k xs
  mid_set_before b k j v h = ap (take k) (drop-set-lt b xs j v h)

  pub mid_set_after : (b k i : ℕ) (v : X) → k ≤ i → mid_of b k (slice_set xs (b + i) v) ≡ mid_of b k xs
  mid_set_after b k i v h = ap (take k) (drop-set-add b xs i v) ∙ take-set-le k (drop b xs) i v h

  -- an element of a region
  pub get_mid : (b k i : ℕ) (d : X) → i < k → slice_index_or (mid_of b k xs) i d ≡ slice_index_or xs (b + i) d
  get_mid b k i d h = get_or-take k (drop b xs) i d h ∙ get_or-drop b xs i d

  module _ (a k : ℕ) (ys : List X) (e : length ys ≡ k) (h : a + k ≤ length xs) where
    head_long : length (take a xs) ≡ a
    head_long =
        let le : a ≤ length xs = omega arith in
        length-take-le a xs le

    -- the length stays
    pub put_long : length (put_mid a k xs ys) ≡ length xs
    put_long = same_len_mid a k xs ys (e ∙ sym (mid_long a k h))

    -- what was written is read back
    pub mid_put : mid_of a k (put_mid a k xs ys) ≡ ys
    mid_put = ap (take k) (drop_at (take a xs) (ys ++ post_of a k xs) a head_long) ∙ take_at ys (post_of a k xs) k e

    -- an element before the region is as it was, and one after it
    pub get_before : (j : ℕ) (d : X) → j < a → slice_index_or (put_mid a k xs ys) j d ≡ slice_index_or xs j d
    get_before j d g =
        let le : j < length (take a xs) = rw head_long g in
        get_or-append (take a xs) (ys ++ post_of a k xs) d j le ∙ get_or-take a xs j d g

    pub get_after : (j : ℕ) (d : X) → slice_index_or (put_mid a k xs ys) (a + k + j) d ≡ slice_index_or xs (a + k + j) d
    get_after j d =
        let long : length (take a xs ++ ys) ≡ a + k = simp (length-append, head_long, e) in
        ap (λ (l : List X). get_or l (a + k + j) d) (sym (append_assoc (take a xs) ys (post_of a k xs)))
        ∙ ap (λ (n : ℕ). get_or ((take a xs ++ ys) ++ post_of a k xs) (n + j) d) (sym long)
        ∙ get_or-append-add (take a xs ++ ys) (post_of a k xs) j d
        ∙ ap (λ (l : List X). get_or l j d) (drop-drop k a xs)
        ∙ get_or-drop (a + k) xs j d

    -- one more element written, right after the k that are there
    pub put_more : (v : X) → a + k < length xs → slice_set (put_mid a k xs ys) (a + k) v ≡ put_mid a (k + 1) xs (ys ++ (v ∷ []))
    put_more v g =
        let room : k < length (drop a xs) = simp length-drop (omega arith) in
        let long : length (take a xs ++ ys) ≡ a + k = simp (length-append, head_long, e) in
        rw (add-one k, drop-cons (drop a xs) k v room, ← append_assoc (take a xs), set_at (take a xs ++ ys) _ _ v (a + k) long)
        (simp append_assoc)

    -- a second region written right after the first
    pub put_put : (j : ℕ) (zs : List X) → put_mid (a + k) j (put_mid a k xs ys) zs ≡ put_mid a (k + j) xs (ys ++ zs)
    put_put j zs =
        let long : length (take a xs ++ ys) ≡ a + k = simp (length-append, head_long, e) in
        let split : put_mid a k xs ys ≡ (take a xs ++ ys) ++ post_of a k xs = sym (append_assoc (take a xs) ys (post_of a k xs)) in
        rw (split, take_at (take a xs ++ ys) (post_of a k xs) (a + k) long, drop_at (take a xs ++ ys) (post_of a k xs) (a + k) long, drop-drop j k (drop a xs))
        (simp append_assoc)

-- ---- what lies outside a region is as it was

module _ {X : Type 0} where
  pub record Outside (a k : ℕ) (xs w : List X) : Type 0 where
    pub before : take a w ≡ take a xs
    pub after : drop (a + k) w ≡ drop (a + k) xs

  module _ (a k : ℕ) where
    pub outside_same : (xs : List X) → Outside a k xs xs
    outside_same xs = record { before = refl; after = refl }

    pub outside_then : {xs w u : List X} → Outside a k xs w → Outside a k w u → Outside a k xs u
    outside_then o p = record { before = p.before ∙ o.before; after = p.after ∙ o.after }

    module _ {xs w : List X} (o : Outside a k xs w) where
      pub outside_put : w ≡ put_mid a k xs (mid_of a k w)
      outside_put = sym (put_same a k w) ∙ rw (o.before, drop-drop k a w, drop-drop k a xs, o.after)

      -- an element written in the region, and a region in it
      pub outside_set : (i : ℕ) (v : X) → a ≤ i → i < a + k → Outside a k xs (slice_set w i v)
      outside_set i v h g = record { before = take-set-le a w i v h ∙ o.before; after = drop-set-lt (a + k) w i v g ∙ o.after }

      pub outside_part : (b j c : ℕ) (ys : List X) → a ≤ b → b + j + c ≡ a + k → length ys ≡ j → b + j ≤ length w → Outside a k xs (put_mid b j w ys)
      outside_part b j c ys h g e l =
          let head : length (take b w) ≡ b = length-take-le b w (omega arith) in
          let long : length (take b w ++ ys) ≡ b + j = simp (length-append, head, e) in
          let split : put_mid b j w ys ≡ (take b w ++ ys) ++ post_of b j w = sym (append_assoc (take b w) ys (post_of b j w)) in
          let past : drop (b + j) (put_mid b j w ys) ≡ drop (b + j) w = ap (drop (b + j)) split ∙ drop_at (take b w ++ ys) (post_of b j w) (b + j) long ∙ drop-drop j b w in
          let fits : a ≤ length (take b w) = rw head h in
          record {
            before = take-append-le a (take b w) (ys ++ post_of b j w) fits ∙ take-take a b w h ∙ o.before;
            after =
                rw (← g)
                (sym (drop-drop c (b + j) (put_mid b j w ys)) ∙ ap (drop c) past ∙ drop-drop c (b + j) w ∙ (rw (← g) at o.after));
          }

      -- the regions before and after it
      pub outside_front : (j : ℕ) → j ≤ a → mid_of 0 j w ≡ mid_of 0 j xs
      outside_front j h = sym (take-take j a w h) ∙ ap (take j) o.before ∙ take-take j a xs h

      pub outside_back : (c j : ℕ) → mid_of (a + k + c) j w ≡ mid_of (a + k + c) j xs
      outside_back c j = ap (take j) (sym (drop-drop c (a + k) w) ∙ ap (drop c) o.after ∙ drop-drop c (a + k) xs)

-- what lies behind a front part that was lent is as it was
pub drop_behind : (xs front : List ℕ) (at l : ℕ) → l ≡ at → length front ≡ at → drop at (put_mid 0 l xs front) ≡ drop at xs
drop_behind xs front at l e long = drop_at front (post_of 0 l xs) at long ∙ ap (λ (j : ℕ). drop j xs) e

-- a turn of a loop that stores the values of f from a on
pub tabulate_turn : (f : ℕ → ℕ) (xs w : List ℕ) (a k v : ℕ) → w ≡ put_mid a k xs (tabulate k f) → v ≡ f k → a + k < length xs
    → slice_set w (a + k) v ≡ put_mid a (k + 1) xs (tabulate (k + 1) f)
tabulate_turn f xs w a k v e r room =
    let fits : a + k ≤ length xs = omega arith in
    rw (e, r, tabulate_more f k) (put_more xs a k (tabulate k f) (length_tabulate k f) fits (f k) room)

-- a turn of a loop that maps the region at b, which lies before it, to the region at a
pub map_turn : (f : ℕ → ℕ) (xs w : List ℕ) (a b k v : ℕ) → w ≡ put_mid a k xs (map f (mid_of b k xs)) → v ≡ f (slice_index w (b + k))
    → b + k < a → a + k < length xs → slice_set w (a + k) v ≡ put_mid a (k + 1) xs (map f (mid_of b (k + 1) xs))
map_turn f xs w a b k v e r before room =
    let inner : b + k ≤ length xs = omega arith in
    let read : b + k < length xs = omega arith in
    let fits : a + k ≤ length xs = omega arith in
    let long : length (map f (mid_of b k xs)) ≡ k = length-map (mid_of b k xs) f ∙ mid_long xs b k inner in
    let same : get_or w (b + k) 0 ≡ get_or xs (b + k) 0 = ap (λ (l : List ℕ). slice_index l (b + k)) e ∙ get_before xs a k (map f (mid_of b k xs)) long fits (b + k) 0 before in
    rw (e, r, same)
    (put_more xs a k (map f (mid_of b k xs)) long fits (f (slice_index xs (b + k))) room
    ∙ ap (put_mid a (k + 1) xs) (sym (map-append f (mid_of b k xs) (slice_index xs (b + k) ∷ [])) ∙ ap (map f) (sym (mid_more xs b k 0 read))))
