-- The loop of `list_kept`: what is listed after p places, and what is left. The flags stand before the list.
-- Assumes nothing.
use Rattle.std.proofs.Common.{◌≡◌, ℕ, suc, ◌+◌, ◌<◌, ◌≤◌, List, [], ◌∷◌, ◌++◌, length, get_or, drop, set, sym, refl, ap, ◌∙◌, inl, inr, append_assoc, append-nil, add-zero, zero-add, add-one, arith, length-set, drop_of_length-le, drop-cons, get_or-set_same}
use borrow.Rule.Slice.PartMut.{mid_of}
use Rattle.words.specs.Lists.{sum}
use Rattle.words.specs.laws.Lists.{sum_take}
use Rattle.words.specs.laws.Regions.{mid_long, get_mid, mid_more, mid_set_after, Outside, outside_same, outside_set, outside_front}
use Rattle.flow.specs.laws.Flags.{Flags, flag}
use Rattle.pc_map.specs.Boundary.{boundary}
use Rattle.pc_map.specs.laws.Boundaries.{boundary_most}
use Rattle.pc_map.specs.laws.Listed.{kept_from, kept_list}

pub record Listing (xs : List ℕ) (n at : ℕ) (w : List ℕ) (next p : ℕ) : Type 0 where
  pub within : p ≤ n
  pub counted : next ≡ boundary (mid_of 0 n xs) p
  pub stored : mid_of at next w ++ kept_from p (drop p (mid_of 0 n xs)) ≡ kept_list (mid_of 0 n xs)
  pub long : length w ≡ length xs
  pub same : Outside at n xs w

module _ (xs : List ℕ) (n at : ℕ) (f : Flags (mid_of 0 n xs)) (after : n ≤ at) (room : at + n ≤ length xs) where
  pub listing_begin : Listing xs n at xs 0 0
  unfolding sum
  listing_begin = record { within = omega arith; counted = refl; stored = refl; long = refl; same = outside_same at n xs }

  flags_long : length (mid_of 0 n xs) ≡ n
  flags_long = mid_long xs 0 n (omega arith)

  module _ (w : List ℕ) (next p : ℕ) (l : Listing xs n at w next p) where
    -- the list lies within the places that were seen
    pub listing_few : next ≤ p
    listing_few = omega (arith, l.counted, boundary_most (mid_of 0 n xs) f p)

    module _ (h : p < n) where
      outside : Outside at n xs (set w (at + next) p)
      outside = let few = listing_few in outside_set at n l.same (at + next) p (omega arith) (omega arith)

      -- the flags are still there
      pub listing_flag : get_or (set w (at + next) p) p 0 ≡ get_or (mid_of 0 n xs) p 0
      listing_flag =
          ap (λ (i : ℕ). get_or (set w (at + next) p) i 0) (sym (zero-add p))
          ∙ sym (get_mid (set w (at + next) p) 0 n p 0 h)
          ∙ ap (λ (k : List ℕ). get_or k p 0) (outside_front at n outside n after)

      -- what is left at place p, by its flag
      left : (v : ℕ) → get_or (mid_of 0 n xs) p 0 ≡ v → kept_from p (v ∷ drop (suc p) (mid_of 0 n xs)) ≡ kept_from p (drop p (mid_of 0 n xs))
      left v e = let inside : p < length (mid_of 0 n xs) = rw flags_long h in sym (ap (kept_from p) (drop-cons (mid_of 0 n xs) p 0 inside ∙ rw e))

      -- the place that was stored is listed, or the next one will take its position
      more : mid_of at (next + get_or (mid_of 0 n xs) p 0) (set w (at + next) p) ++ kept_from (suc p) (drop (suc p) (mid_of 0 n xs)) ≡ kept_list (mid_of 0 n xs)
      unfolding kept_from
      more = elim (flag (mid_of 0 n xs) f p) [
        | inl e ↦ rw (e, add-zero next, mid_set_after w at next next p (omega arith)) (ap (λ (k : List ℕ). mid_of at next w ++ k) (left 0 e) ∙ l.stored)
        | inr e ↦ (
            let few = listing_few in
            let long = l.long in
            let inside : at + next < length w = omega arith in
            let fits : at + next < length (set w (at + next) p) = rw (length-set w (at + next) p) inside in
            rw (e, mid_more (set w (at + next) p) at next 0 fits, mid_set_after w at next next p (omega arith), get_or-set_same w (at + next) p 0 inside, append_assoc)
            (ap (λ (k : List ℕ). mid_of at next w ++ k) (left 1 e) ∙ l.stored)
            )
      ]

      pub listing_turn : Listing xs n at (set w (at + next) p) (next + get_or (set w (at + next) p) p 0) (p + 1)
      listing_turn =
          let inside : p < length (mid_of 0 n xs) = rw flags_long h in
          rw listing_flag (record {
            within = omega arith;
            counted = rw l.counted (sym (sum_take (mid_of 0 n xs) p inside));
            stored = rw (add-one p) more;
            long = length-set w (at + next) p ∙ l.long;
            same = outside;
          })

    pub listing_end : n ≤ p → (mid_of at (boundary (mid_of 0 n xs) n) w ≡ kept_list (mid_of 0 n xs)) × Outside at n xs w
    unfolding kept_from
    listing_end h =
        let end : p ≡ n = omega (arith, l.within) in
        let all : length (mid_of 0 n xs) ≤ p = rw flags_long h in
        let none : drop p (mid_of 0 n xs) ≡ [] = drop_of_length-le (mid_of 0 n xs) all in
        let count : next ≡ boundary (mid_of 0 n xs) n = l.counted ∙ ap (boundary (mid_of 0 n xs)) end in
        (rw (← count) (sym (append-nil (mid_of at next w)) ∙ (rw none at l.stored)), l.same)
