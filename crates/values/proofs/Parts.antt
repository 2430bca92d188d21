-- Regions of the memory: one that is replaced is what was put there, and the others are as they were.
-- Assumes nothing.
use Rattle.std.proofs.Common.{◌≡◌, ℕ, ◌+◌, ◌-◌, ◌<◌, ◌≤◌, List, length, get_or, sym, ◌∙◌, arith, ext_get_or}
use borrow.Rule.Slice.PartMut.{put_mid}
use Rattle.words.specs.laws.Regions.{mid_long, get_mid, mid_put, put_long, get_before, get_after}
use Rattle.values.specs.laws.Memory.{part}

module _ (a e : ℕ) (t u : List ℕ) (from : a ≤ e) (to : e ≤ length t) (long : length u ≡ e - a) where
  inside : a + (e - a) ≤ length t
  inside = omega arith

  abbrev t' : List ℕ
  t' = put_mid a (e - a) t u

  pub put_length : length (put_mid a (e - a) t u) ≡ length t
  put_length = put_long t a (e - a) u long inside

  pub part_put : part a e (put_mid a (e - a) t u) ≡ u
  part_put = mid_put t a (e - a) u long inside

  -- elsewhere
  same_part : (b f : ℕ) → f ≤ length t → ((i : ℕ) → i < f - b → get_or t' (b + i) 0 ≡ get_or t (b + i) 0) → b ≤ f → part b f t' ≡ part b f t
  same_part b f h g low =
      let room : b + (f - b) ≤ length t = omega arith in
      let room' : b + (f - b) ≤ length t' = rw put_length room in
      let here : length (part b f t') ≡ f - b = mid_long t' b (f - b) room' in
      let there : length (part b f t) ≡ f - b = mid_long t b (f - b) room in
      ext_get_or 0 (part b f t') (part b f t) (here ∙ sym there)
      (λ i l. let m : i < f - b = rw here at l in get_mid t' b (f - b) i 0 m ∙ g i m ∙ sym (get_mid t b (f - b) i 0 m))

  pub part_before : (b f : ℕ) → b ≤ f → f ≤ a → part b f (put_mid a (e - a) t u) ≡ part b f t
  part_before b f low h = same_part b f (omega arith) (λ i l. get_before t a (e - a) u long inside (b + i) 0 (omega arith)) low

  pub part_after : (b f : ℕ) → b ≤ f → f ≤ length t → e ≤ b → part b f (put_mid a (e - a) t u) ≡ part b f t
  part_after b f low h g =
      same_part b f h
      (λ i l.
      let at : b + i ≡ a + (e - a) + (b + i - e) = omega arith in
      rw at (get_after t a (e - a) u long inside (b + i - e) 0))
      low
