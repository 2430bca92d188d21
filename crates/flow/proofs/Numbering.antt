-- The loop of `number_blocks`: what is stored after p places.
-- Assumes nothing.
use Rattle.std.proofs.Common.{◌≡◌, ℕ, suc, ◌+◌, ◌-◌, ◌*◌, ◌<◌, ◌≤◌, List, length, get_or, take, drop, set, sym, refl, ap, ◌∙◌, inl, inr, append-nil, add-zero, zero-add, add-one, arith, length-set, drop-drop, take-suc-set, drop-set-lt}
use lib.Seq.{take-length, take-set-le, set_split, append_snoc}
use Rattle.words.specs.Lists.{sum, tabulate}
use Rattle.words.specs.laws.Lists.{sum_take}
use borrow.Rule.Slice.PartMut.{mid_of, put_mid}
use Rattle.words.specs.laws.Regions.{mid_long, get_mid, mid_set, mid_set_before, mid_set_after, Outside, outside_same, outside_set, outside_front, outside_put}
use Rattle.words.specs.laws.Tabulate.{tabulated_turn, tabulated_end}
use Rattle.unit.specs.laws.Region.{starts_at, keep_at}
use Rattle.flow.specs.Block.{block_of}
use Rattle.flow.specs.laws.Blocks.{places_from, places_more, Numbered}
use Rattle.flow.specs.laws.Flags.{Flags, flag, sum_most, sum_first, sum_whole}
use Rattle.flow.specs.laws.Marks.{Marked}

pub record Numbering (l blocks starts₀ starts : List ℕ) (p count : ℕ) : Type 0 where
  pub within : p ≤ length l
  pub blocks_long : length blocks ≡ length l
  pub starts_long : length starts ≡ length starts₀
  pub counted : count ≡ sum (take p l)
  pub numbers : take p blocks ≡ tabulate p (block_of l)
  pub places : take count starts ≡ places_from 0 (take p l)
  -- the place after the last start is free, and the rest is as it was
  pub rest : drop (suc count) starts ≡ drop (suc count) starts₀

module _ (l : List ℕ) (f : Flags l) where
  pub numbering_begin : (blocks starts : List ℕ) → length blocks ≡ length l → Numbering l blocks starts starts 0 0
  unfolding sum tabulate places_from
  numbering_begin blocks starts e = record {
    within = omega arith;
    blocks_long = e;
    starts_long = refl;
    counted = refl;
    numbers = refl;
    places = refl;
    rest = refl;
  }

  module _ (blocks starts₀ starts : List ℕ) (p count : ℕ) (n : Numbering l blocks starts₀ starts p count) where
    pub few : count ≤ p
    few = rw n.counted (sum_most l f p)

    module _ (h : p < length l) where
      next_count : sum (take (p + 1) l) ≡ count + get_or l p 0
      next_count = sum_take l p h ∙ ap (λ (k : ℕ). k + get_or l p 0) (sym n.counted)

      pub some : Marked l 0 → 1 ≤ count + get_or l p 0
      some one = rw (← next_count) (sum_first l (p + 1) one (omega arith))

      module _ (room : length l + 1 ≤ length starts₀) where
        next_places : take (count + get_or l p 0) (set starts count p) ≡ places_from 0 (take (p + 1) l)
        next_places =
            let small = few in
            let fits : count < length starts = omega (arith, n.starts_long) in
            rw (places_more l p h)
            (elim (flag l f p) [
              | inl e ↦ rw (e, add-zero count, take-set-le count starts count p (omega arith), n.places, append-nil)
              | inr e ↦ rw (e, add-one count, take-suc-set starts count p fits, n.places)
            ])

        next_rest : drop (suc (count + get_or l p 0)) (set starts count p) ≡ drop (suc (count + get_or l p 0)) starts₀
        next_rest =
            let same : suc (count + get_or l p 0) ≡ suc count + get_or l p 0 = omega arith in
            rw same
            (drop-set-lt (suc count + get_or l p 0) starts count p (omega arith)
            ∙ sym (drop-drop (get_or l p 0) (suc count) starts)
            ∙ ap (drop (get_or l p 0)) n.rest
            ∙ drop-drop (get_or l p 0) (suc count) starts₀)

        pub numbering_turn : Numbering l (set blocks p (count + get_or l p 0 - 1)) starts₀ (set starts count p) (p + 1) (count + get_or l p 0)
        numbering_turn = record {
          within = omega arith;
          blocks_long = length-set blocks p _ ∙ n.blocks_long;
          starts_long = length-set starts count p ∙ n.starts_long;
          counted = sym next_count;
          numbers = tabulated_turn (block_of l) blocks p _ n.numbers (rw n.blocks_long h) (rw (← add-one p, next_count));
          places = next_places;
          rest = next_rest;
        }

    pub numbering_end : p ≡ length l → length l + 1 ≤ length starts₀ → Numbered l blocks starts₀ (set starts count (length l)) count
    numbering_end e room =
        let small = few in
        let fits : count < length starts = omega (arith, n.starts_long) in
        record {
          counted = n.counted ∙ ap (λ (k : ℕ). sum (take k l)) e ∙ sum_whole l;
          numbers = rw (← e) (tabulated_end (block_of l) blocks p n.numbers (e ∙ sym n.blocks_long));
          places =
              let all : places_from 0 (take p l) ≡ places_from 0 l = ap (places_from 0) (ap (λ (k : ℕ). take k l) e ∙ take-length l) in
              rw (add-one count, set_split starts count (length l) fits, n.places, n.rest, all) (sym (append_snoc (places_from 0 l) (length l) (drop (suc count) starts₀)));
        }

-- ---- the three regions of one buffer: n leaders, n numbers of blocks, n + 1 starts

pub record Buffered (xs : List ℕ) (n : ℕ) (w : List ℕ) (p count : ℕ) : Type 0 where
  pub long : length w ≡ length xs
  pub outside : Outside n (2 * n + 1) xs w
  pub numbering : Numbering (mid_of 0 n xs) (mid_of n n w) (mid_of (starts_at n) (n + 1) xs) (mid_of (starts_at n) (n + 1) w) p count

module _ (xs : List ℕ) (n : ℕ) (f : Flags (mid_of 0 n xs)) (room : keep_at n ≤ length xs) where
  leaders_long : length (mid_of 0 n xs) ≡ n
  leaders_long = mid_long xs 0 n (omega arith)

  starts_room : length (mid_of 0 n xs) + 1 ≤ length (mid_of (starts_at n) (n + 1) xs)
  starts_room = omega (arith, leaders_long, mid_long xs (starts_at n) (n + 1) (omega arith))

  pub buffered_begin : Buffered xs n xs 0 0
  buffered_begin = record {
    long = refl;
    outside = outside_same n (2 * n + 1) xs;
    numbering = numbering_begin (mid_of 0 n xs) f (mid_of n n xs) (mid_of (starts_at n) (n + 1) xs) (mid_long xs n n (omega arith) ∙ sym leaders_long);
  }

  module _ (w : List ℕ) (p count : ℕ) (b : Buffered xs n w p count) where
    pub buffered_few : (count ≤ p) × (p ≤ n)
    buffered_few = (few _ f _ _ _ _ _ b.numbering, rw (← leaders_long) b.numbering.within)

    started : (v : ℕ) → Outside n (2 * n + 1) xs (set w (starts_at n + count) v)
    started v = outside_set n (2 * n + 1) b.outside (starts_at n + count) v (omega arith) (omega (arith, buffered_few))

    starts_set : (v : ℕ) → mid_of (starts_at n) (n + 1) (set w (starts_at n + count) v) ≡ set (mid_of (starts_at n) (n + 1) w) count v
    starts_set v = mid_set w (starts_at n) (n + 1) count v (omega (arith, buffered_few))

    blocks_same : (v : ℕ) → mid_of n n (set w (starts_at n + count) v) ≡ mid_of n n w
    blocks_same v =
        let at : starts_at n + count ≡ n + (n + count) = omega arith in
        rw at (mid_set_after w n n (n + count) v (omega arith))

    module _ (h : p < n) where
      inside : p < length (mid_of 0 n xs)
      inside = rw leaders_long h

      -- the leaders are still there
      pub buffered_flag : get_or (set w (starts_at n + count) p) p 0 ≡ get_or (mid_of 0 n xs) p 0
      buffered_flag =
          rw (zero-add p) at (sym (get_mid (set w (starts_at n + count) p) 0 n p 0 h))
          ∙ ap (λ (l : List ℕ). get_or l p 0) (outside_front n (2 * n + 1) (started p) n (omega arith))

      pub buffered_some : Marked (mid_of 0 n xs) 0 → 1 ≤ count + get_or (set w (starts_at n + count) p) p 0
      buffered_some one = rw buffered_flag (some _ f _ _ _ _ _ b.numbering inside one)

      pub buffered_turn : Buffered xs n (set (set w (starts_at n + count) p) (n + p) (count + get_or (set w (starts_at n + count) p) p 0 - 1)) (p + 1) (count + get_or (set w (starts_at n + count) p) p 0)
      buffered_turn =
          let w₁ = set w (starts_at n + count) p in
          let v = count + get_or (mid_of 0 n xs) p 0 - 1 in
          let blocks : mid_of n n (set w₁ (n + p) v) ≡ set (mid_of n n w) p v = mid_set w₁ n n p v h ∙ ap (λ (l : List ℕ). set l p v) (blocks_same p) in
          let starts : mid_of (starts_at n) (n + 1) (set w₁ (n + p) v) ≡ set (mid_of (starts_at n) (n + 1) w) count p = mid_set_before w₁ (starts_at n) (n + 1) (n + p) v (omega arith) ∙ starts_set p in
          rw buffered_flag
          (record {
            long = length-set w₁ (n + p) v ∙ length-set w (starts_at n + count) p ∙ b.long;
            outside = outside_set n (2 * n + 1) (started p) (n + p) v (omega arith) (omega arith);
            numbering = rw (blocks, starts) (numbering_turn _ f _ _ _ _ _ b.numbering inside starts_room);
          })

    pub buffered_end : n ≤ p → Numbered (mid_of 0 n xs) (mid_of n n (set w (starts_at n + count) n)) (mid_of (starts_at n) (n + 1) xs) (mid_of (starts_at n) (n + 1) (set w (starts_at n + count) n)) count
        × (set w (starts_at n + count) n ≡ put_mid n (2 * n + 1) xs (mid_of n (2 * n + 1) (set w (starts_at n + count) n)))
    buffered_end h =
        let end : p ≡ length (mid_of 0 n xs) = omega (arith, buffered_few, leaders_long) in
        let done : Numbered (mid_of 0 n xs) (mid_of n n w) (mid_of (starts_at n) (n + 1) xs) (set (mid_of (starts_at n) (n + 1) w) count n) count
        = rw leaders_long at (numbering_end _ f _ _ _ _ _ b.numbering end starts_room) in
        (rw (blocks_same n, starts_set n) done, outside_put n (2 * n + 1) (started n))
