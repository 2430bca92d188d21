-- Rows bit by bit, and that every row has a bit for each slot.
-- Assumes nothing.
use Rattle.std.specs.Prelude.{◌≡◌, Bool, cond, not, ◌&&◌, ◌||◌, eqb, get_or, set, replicate}
use Rattle.std.proofs.Math.Path.{refl, sym}
use Rattle.std.proofs.Common.{ap, ◌∙◌, zero-add, arith, get_or-set_same, get_or-set_other}
use Rattle.std.proofs.Math.Bool.{true, false, or-false}
use mathlib.Core.List.{List, [], ◌∷◌}
use Prim.Native.Nat.{ℕ, zero, suc, ◌<◌}
use Rattle.std.proofs.Math.Decide.{ℕ_discrete, dec_le}
use Rattle.std.proofs.Math.ListN.{length, length-replicate}
use Rattle.std.proofs.Math.Seq.{set_out}
use Rattle.words.specs.laws.Lists.{length_map_from, get_d_map_from}
use Rattle.effects.specs.Shape.{Tables, Sections, Cell}
use Rattle.effects.specs.Effects.{all_reads, sure_writes, range_has, any_of}
use Rattle.flow.specs.Block.{block_of}
use Rattle.pc_map.specs.Boundary.{is_kept}
use Rattle.liveness.specs.Live.{Row, live_before, union, edges, is_last, no_row, joined, live_after, round_from}

abbrev pub bit : Row → ℕ → Bool
bit row s = get_or row s false

pub before_bit : (T : Tables) (x : Cell) (row : Row) (s : ℕ) → s < length row
    → bit (live_before T x row) s ≡ (any_of (range_has s) (all_reads T x) || (bit row s && not (any_of (range_has s) (sure_writes T x))))
unfolding live_before
before_bit T x row s h =
    get_d_map_from (λ t live. any_of (range_has t) (all_reads T x) || (live && not (any_of (range_has t) (sure_writes T x)))) 0 row s false false h ∙ rw zero-add

pub before_long : (T : Tables) (x : Cell) (row : Row) → length (live_before T x row) ≡ length row
unfolding live_before
before_long T x row = length_map_from _ 0 row

pub union_bit : (x y : Row) (s : ℕ) → bit (union x y) s ≡ (bit x s || bit y s)
unfolding union
union_bit [] y s = refl
union_bit (a ∷ x) [] zero = sym (or-false a)
union_bit (a ∷ x) [] (suc s) = sym (or-false (bit x s))
union_bit (a ∷ x) (b ∷ y) zero = refl
union_bit (a ∷ x) (b ∷ y) (suc s) = union_bit x y s

pub union_long : (x y : Row) → length x ≡ length y → length (union x y) ≡ length x
unfolding union
union_long [] [] e = refl
union_long [] (b ∷ y) e = absurd (omega arith)
union_long (a ∷ x) [] e = absurd (omega arith)
union_long (a ∷ x) (b ∷ y) e = let f : length x ≡ length y = omega arith in ap suc (union_long x y f)

module _ (S : Sections) (n : ℕ) (leaders keep : List ℕ) where
  -- every row has a bit for each slot
  abbrev pub Wide : List Row → Type 0
  Wide rows = (b : ℕ) → length (get_or rows b (no_row S n leaders keep)) ≡ S.locals

  pub none_wide : length (no_row S n leaders keep) ≡ S.locals
  unfolding no_row
  none_wide = length-replicate S.locals false

  -- no slot is in the empty row
  pub no_bit : (t : ℕ) → bit (no_row S n leaders keep) t ≡ false
  unfolding no_row
  no_bit t = go S.locals t
    where
      go : (s t : ℕ) → bit (replicate s false) t ≡ false
      go zero t = refl
      go (suc s) zero = refl
      go (suc s) (suc t) = go s t

  pub joined_long : (rows : List Row) → Wide rows → (qs : List ℕ) → length (joined S n leaders keep rows qs) ≡ S.locals
  unfolding joined
  joined_long rows w [] = none_wide
  joined_long rows w (q ∷ qs) = union_long _ (joined S n leaders keep rows qs) (w (block_of leaders q) ∙ sym (joined_long rows w qs)) ∙ w (block_of leaders q)

  pub after_long : (rows : List Row) → Wide rows → (p : ℕ) (x : Cell) (next : Row) → (is_last n leaders p ≡ false → length next ≡ S.locals)
      → length (live_after S n leaders keep rows p x next) ≡ S.locals
  unfolding live_after
  after_long rows w p x next f = go (is_last n leaders p) refl
    where
      go : (t : Bool) → is_last n leaders p ≡ t → length (cond t (joined S n leaders keep rows (edges n p x)) next) ≡ S.locals
      go true e = joined_long rows w (edges n p x)
      go false e = f e

  pub set_wide : (rows : List Row) (b : ℕ) (r : Row) → Wide rows → length r ≡ S.locals → Wide (set rows b r)
  set_wide rows b r w e i = elim (ℕ_discrete i b) [ yes d ↦ rw d same | no d ↦ rw (get_or-set_other rows b i r (no_row S n leaders keep) d) (w i) ]
    where
      same : length (get_or (set rows b r) b (no_row S n leaders keep)) ≡ S.locals
      same = elim (dec_le (length rows) b) [
        | yes h ↦ rw (set_out rows b r h) (w b)
        | no h ↦ rw (get_or-set_same rows b r (no_row S n leaders keep) (omega arith)) e
      ]

  -- a round keeps rows wide
  pub round_wide : (p : ℕ) (xs : List Cell) (rows : List Row) → Wide rows
      → Wide (round_from S n leaders keep p xs rows).rows × (length (round_from S n leaders keep p xs rows).before ≡ S.locals)
  unfolding round_from
  round_wide p [] rows w = (w, none_wide)
  round_wide p (x ∷ xs) rows w =
      let r = round_wide (suc p) xs rows w in
      let after : Row = live_after S n leaders keep (round_from S n leaders keep (suc p) xs rows).rows p x (round_from S n leaders keep (suc p) xs rows).before in
      let l : length after ≡ S.locals = after_long _ r.0 p x _ (λ e. r.1) in
      let m : length (cond (is_kept keep p) (live_before S.tables x after) after) ≡ S.locals = kept_long (is_kept keep p) x after l in
      (perhaps_wide (eqb (get_or leaders p 0) 1) (round_from S n leaders keep (suc p) xs rows).rows (block_of leaders p) (cond (is_kept keep p) (live_before S.tables x after) after) r.0 m, m)
    where
      kept_long : (t : Bool) (x : Cell) (row : Row) → length row ≡ S.locals → length (cond t (live_before S.tables x row) row) ≡ S.locals
      kept_long true x row e = before_long S.tables x row ∙ e
      kept_long false x row e = e

      perhaps_wide : (t : Bool) (rs : List Row) (b : ℕ) (r : Row) → Wide rs → length r ≡ S.locals → Wide (cond t (set rs b r) rs)
      perhaps_wide true rs b r w e = set_wide rs b r w e
      perhaps_wide false rs b r w e = w

  pub walk_wide : (p : ℕ) (xs : List Cell) (rows : List Row) → Wide rows → length (round_from S n leaders keep p xs rows).before ≡ S.locals
  walk_wide p xs rows w = (round_wide p xs rows w).1

  pub start_wide : (k : ℕ) → Wide (replicate k (no_row S n leaders keep))
  start_wide zero b = none_wide
  start_wide (suc k) zero = none_wide
  start_wide (suc k) (suc b) = start_wide k b
