-- The blocks by number: where each starts, and the block of each place.
-- Assumes nothing.
use Rattle.std.specs.Prelude.{◌≡◌, ℕ, zero, suc, ◌+◌, ◌<◌, ◌≤◌, Bool, true, false, cond, ◌⊎◌, List, [], ◌∷◌, ◌++◌, length, take, drop, ◌==◌, nat_lt, slice_index, slice_index_or, refl}
use Rattle.std.proofs.Common.{◌∙◌, inl, inr, add-zero, zero-add, add-suc, suc-add, add-one, length-append, take-suc, length-take-le, ltb-true, ltb-false}
use native.Mathlib.Omega.{arith}
use Rattle.std.proofs.Math.ListN.{get_or-append}
use Rattle.std.proofs.Math.Seq.{get_or-append_seam}
use borrow.Rule.Slice.PartMut.{put_mid}
use Rattle.words.specs.Lists.{sum, tabulate}
use Rattle.words.specs.laws.Lists.{get_d_tabulate}
use Rattle.flow.specs.Block.{block_of, block_count}
use Rattle.flow.specs.laws.Marks.{Marked}
use Rattle.flow.specs.laws.Flags.{Flags, flag, sum_whole, sum_mono, sum_next, sum_first}

-- the marked places, counted from p
unfoldable pub places_from : ℕ → List ℕ → List ℕ
places_from p [] = []
places_from p (m ∷ ms) = let rest = places_from (suc p) ms in cond (m == 1) (p ∷ rest) rest

-- the start of each block, and at last the number of places, where a next one would start
abbrev pub block_starts : List ℕ → List ℕ
block_starts marks = places_from 0 marks ++ (length marks ∷ [])

abbrev pub block_start : List ℕ → ℕ → ℕ
block_start marks b = slice_index (block_starts marks) b

-- what `number_blocks` makes of the leaders
pub record Numbered (marks blocks starts starts' : List ℕ) (count : ℕ) : Type 0 where
  pub counted : count ≡ block_count marks
  pub numbers : blocks ≡ tabulate (length marks) (block_of marks)
  pub places : starts' ≡ put_mid 0 (count + 1) starts (block_starts marks)

-- ---- the marked places

pub places_long : (l : List ℕ) → Flags l → (p : ℕ) → length (places_from p l) ≡ sum l
unfolding places_from sum
places_long [] f p = refl
places_long (x ∷ l) f p = elim (flag (x ∷ l) f 0) [
  | inl e ↦ rw (e, places_long l (λ q. f (suc q)) (suc p)) (omega arith)
  | inr e ↦ rw (e, places_long l (λ q. f (suc q)) (suc p)) (omega arith)
]

pub places_append : (xs ys : List ℕ) (p : ℕ) → places_from p (xs ++ ys) ≡ places_from p xs ++ places_from (p + length xs) ys
unfolding places_from
places_append [] ys p = rw add-zero
places_append (x ∷ xs) ys p = rw (places_append xs ys (suc p), suc-add p (length xs), add-suc p (length xs)) (go (x == 1))
  where
    go : (t : Bool) → cond t (p ∷ (places_from (suc p) xs ++ places_from (suc (p + length xs)) ys)) (places_from (suc p) xs ++ places_from (suc (p + length xs)) ys)
        ≡ cond t (p ∷ places_from (suc p) xs) (places_from (suc p) xs) ++ places_from (suc (p + length xs)) ys
    go true = refl
    go false = refl

-- one place more
pub places_more : (l : List ℕ) (p : ℕ) → p < length l → places_from 0 (take (p + 1) l) ≡ places_from 0 (take p l) ++ cond (slice_index l p == 1) (p ∷ []) []
unfolding places_from
places_more l p h =
    let long : length (take p l) ≡ p = length-take-le p l (omega arith) in
    rw (add-one p, take-suc l p 0 h) (places_append (take p l) (slice_index l p ∷ []) 0 ∙ rw (long, zero-add))

-- the b-th marked place is the one with b marked places before it
record Nth (l : List ℕ) (p b : ℕ) : Type 0 where
  off : ℕ
  at_off : slice_index_or (places_from p l) b 0 ≡ p + off
  inside : off < length l
  marked : Marked l off
  rank : sum (take off l) ≡ b

module _ (l : List ℕ) (p x : ℕ) where
  unmarked_first : {b : ℕ} → x ≡ 0 → Nth l (suc p) b → Nth (x ∷ l) p b
  unfolding places_from sum
  unmarked_first e r = record {
    off = suc r.off;
    at_off = rw e (r.at_off ∙ omega arith);
    inside = omega (arith, r.inside);
    marked = r.marked;
    rank = omega (arith, r.rank);
  }

  marked_first : {b : ℕ} → x ≡ 1 → Nth l (suc p) b → Nth (x ∷ l) p (suc b)
  unfolding places_from sum
  marked_first e r = record {
    off = suc r.off;
    at_off = rw e (r.at_off ∙ omega arith);
    inside = omega (arith, r.inside);
    marked = r.marked;
    rank = omega (arith, r.rank);
  }

  marked_zero : x ≡ 1 → Nth (x ∷ l) p 0
  unfolding places_from sum
  marked_zero e = record { off = 0; at_off = rw e (omega arith); inside = omega arith; marked = e; rank = omega arith }

nth : (l : List ℕ) → Flags l → (p b : ℕ) → b < sum l → Nth l p b
unfolding sum
nth [] f p b h = absurd (omega arith)
nth (x ∷ l) f p zero h = elim (flag (x ∷ l) f 0) [
  | inl e ↦ unmarked_first l p x e (nth l (λ q. f (suc q)) (suc p) 0 (omega arith))
  | inr e ↦ marked_zero l p x e
]
nth (x ∷ l) f p (suc b) h = elim (flag (x ∷ l) f 0) [
  | inl e ↦ unmarked_first l p x e (nth l (λ q. f (suc q)) (suc p) (suc b) (omega arith))
  | inr e ↦ marked_first l p x e (nth l (λ q. f (suc q)) (suc p) b (omega arith))
]

-- ---- the blocks of flags whose first is 1

module _ (l : List ℕ) (f : Flags l) where
  -- a block before the last starts at a marked place, with its number of marked places before it
  pub record Starting (b : ℕ) : Type 0 where
    pub inside : block_start l b < length l
    pub marked : Marked l (block_start l b)
    pub rank : sum (take (block_start l b) l) ≡ b

  pub starting : (b : ℕ) → b < block_count l → Starting b
  starting b h =
      let r = nth l f 0 b h in
      let long : b < length (places_from 0 l) = rw (places_long l f 0) h in
      let same : block_start l b ≡ r.off = get_or-append (places_from 0 l) (length l ∷ []) 0 b long ∙ r.at_off ∙ zero-add r.off in
      record { inside = rw same r.inside; marked = rw same r.marked; rank = rw same r.rank }

  -- past the last block is the end
  pub start_end : block_start l (block_count l) ≡ length l
  start_end = rw (← places_long l f 0) (get_or-append_seam (places_from 0 l) (length l) [] 0)

  -- each block but the last ends where the next one starts
  ranked : (b : ℕ) → b ≤ block_count l → (block_start l b ≤ length l) × (sum (take (block_start l b) l) ≡ b)
  ranked b h = go (nat_lt b (block_count l)) refl
    where
      go : (t : Bool) → nat_lt b (block_count l) ≡ t → (block_start l b ≤ length l) × (sum (take (block_start l b) l) ≡ b)
      go true e = let s = starting b (ltb-true b (block_count l) e) in (omega (arith, s.inside), s.rank)
      go false e =
          let end : b ≡ block_count l = omega (arith, ltb-false b (block_count l) e) in
          rw (end, start_end) (omega arith, sum_whole l)

  -- what a walk from block to block relies on
  pub record Walk (b : ℕ) : Type 0 where
    pub start : Starting b
    pub some : block_start l b < block_start l (b + 1)
    pub within : block_start l (b + 1) ≤ length l
    -- no place after the first is marked, and all have the block's number
    pub inner : (p : ℕ) → block_start l b < p → p < block_start l (b + 1) → slice_index l p ≡ 0
    pub number : (p : ℕ) → block_start l b ≤ p → p < block_start l (b + 1) → block_of l p ≡ b

  module _ (b s e : ℕ) (first : sum (take s l) ≡ b) (one : Marked l s) (room : s < length l) (last : sum (take e l) ≡ b + 1) (fits : e ≤ length l) where
    -- one marked place more after the first
    next_rank : sum (take (suc s) l) ≡ b + 1
    next_rank = sum_next l s room ∙ omega arith

    not_empty : s < e
    not_empty = go (nat_lt s e) refl
      where
        go : (t : Bool) → nat_lt s e ≡ t → s < e
        go true q = ltb-true s e q
        go false q = let m = sum_mono l e s (ltb-false s e q) in absurd (omega arith)

    same_rank : (p : ℕ) → s ≤ p → p < e → sum (take (suc p) l) ≡ b + 1
    same_rank p h g =
        let low = sum_mono l (suc s) (suc p) (omega arith) in
        let high = sum_mono l (suc p) e g in
        let n = next_rank in
        omega arith

    none_marked : (p : ℕ) → s < p → p < e → slice_index l p ≡ 0
    none_marked p h g =
        let low = sum_mono l (suc s) p h in
        let n = next_rank in
        let r = same_rank p (omega arith) g in
        let q = sum_next l p (omega arith) in
        omega arith

  pub block_walk : (b : ℕ) → b < block_count l → Walk b
  block_walk b h =
      let s = starting b h in
      let e = ranked (b + 1) (omega arith) in
      record {
        start = s;
        some = not_empty b (block_start l b) (block_start l (b + 1)) s.rank s.marked s.inside e.1 e.0;
        within = e.0;
        inner = none_marked b (block_start l b) (block_start l (b + 1)) s.rank s.marked s.inside e.1 e.0;
        number = λ p h g. omega (arith, same_rank b (block_start l b) (block_start l (b + 1)) s.rank s.marked s.inside e.1 e.0 p h g);
      }

  -- where a block ends, the next one starts, or the code ends
  pub next_start : (b : ℕ) → b < block_count l → (block_start l (b + 1) ≡ length l) ⊎ Marked l (block_start l (b + 1))
  next_start b h = go (nat_lt (b + 1) (block_count l)) refl
    where
      go : (t : Bool) → nat_lt (b + 1) (block_count l) ≡ t → (block_start l (b + 1) ≡ length l) ⊎ Marked l (block_start l (b + 1))
      go true e = inr (starting (b + 1) (ltb-true (b + 1) (block_count l) e)).marked
      go false e =
          let end : b + 1 ≡ block_count l = omega (arith, ltb-false (b + 1) (block_count l) e) in
          inl (rw end start_end)

  -- a later place is in no earlier block
  pub block_mono : (p q : ℕ) → p ≤ q → block_of l p ≤ block_of l q
  block_mono p q h = let m = sum_mono l (suc p) (suc q) (omega arith) in omega arith

  module _ (one : Marked l 0) where
    pub block_below : (p : ℕ) → p < length l → block_of l p < block_count l
    block_below p h =
        let some = sum_first l (suc p) one (omega arith) in
        let most = sum_mono l (suc p) (length l) h in
        let all = sum_whole l in
        omega arith

    -- the first block starts at place 0, and each place is in its own block
    pub start_first : 0 < length l → block_start l 0 ≡ 0
    start_first h =
        let s = starting 0 (omega (arith, block_below 0 h)) in
        let low : (0 < block_start l 0) → 1 ≤ sum (take (block_start l 0) l) = sum_first l (block_start l 0) one in
        go (block_start l 0) s.rank low
      where
        go : (k : ℕ) → sum (take k l) ≡ 0 → (0 < k → 1 ≤ sum (take k l)) → k ≡ 0
        go zero e f = refl
        go (suc k) e f = absurd (omega (arith, f (omega arith)))

    pub block_has : (p : ℕ) → p < length l → (block_start l (block_of l p) ≤ p) × (p < block_start l (block_of l p + 1))
    block_has p h =
        let some = sum_first l (suc p) one (omega arith) in
        let below = block_below p h in
        (low (block_of l p) (omega arith) (ranked (block_of l p) (omega arith)).1, high (block_of l p) (omega arith) below)
      where
        low : (b : ℕ) → sum (take (suc p) l) ≡ b + 1 → sum (take (block_start l b) l) ≡ b → block_start l b ≤ p
        low b r e = go (nat_lt p (block_start l b)) refl
          where
            go : (t : Bool) → nat_lt p (block_start l b) ≡ t → block_start l b ≤ p
            go true q = let m = sum_mono l (suc p) (block_start l b) (ltb-true p (block_start l b) q) in absurd (omega arith)
            go false q = ltb-false p (block_start l b) q

        -- were the next block's start at or before p, p would be in that block
        high : (b : ℕ) → sum (take (suc p) l) ≡ b + 1 → b < block_count l → p < block_start l (b + 1)
        high b r k = go (nat_lt p (block_start l (b + 1))) refl (nat_lt (b + 1) (block_count l)) refl
          where
            go : (t : Bool) → nat_lt p (block_start l (b + 1)) ≡ t → (u : Bool) → nat_lt (b + 1) (block_count l) ≡ u → p < block_start l (b + 1)
            go true q u v = ltb-true p (block_start l (b + 1)) q
            go false q true v =
                let s = starting (b + 1) (ltb-true (b + 1) (block_count l) v) in
                let n = sum_next l (block_start l (b + 1)) s.inside in
                let low = ltb-false p (block_start l (b + 1)) q in
                let m = sum_mono l (suc (block_start l (b + 1))) (suc p) (omega arith) in
                absurd (omega (arith, s.rank, s.marked))
            go false q false v =
                let end : b + 1 ≡ block_count l = omega (arith, ltb-false (b + 1) (block_count l) v) in
                rw (end, start_end) h

-- ---- what `number_blocks` left in lent memory

module _ (l blocks starts starts' : List ℕ) (count : ℕ) (f : Flags l) (n : Numbered l blocks starts starts' count) where
  pub numbered_block : (p : ℕ) → p < length l → slice_index blocks p ≡ block_of l p
  numbered_block p h = rw n.numbers (get_d_tabulate (length l) (block_of l) p 0 h)

  pub numbered_start : (b : ℕ) → b ≤ block_count l → slice_index starts' b ≡ block_start l b
  numbered_start b h =
      let long : length (block_starts l) ≡ sum l + 1 = length-append (places_from 0 l) (length l ∷ []) ∙ rw (places_long l f 0) in
      let lt : b < length (block_starts l) = omega arith in
      rw n.places (get_or-append (block_starts l) (drop (count + 1) starts) 0 b lt)
