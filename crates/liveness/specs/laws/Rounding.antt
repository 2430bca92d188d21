-- A round over the blocks in lent words is a round over the rows, and tells whether it changed any.
-- Assumes nothing.
use Rattle.std.specs.Prelude.{◌≡◌, refl, Bool, true, false, cond, not, ◌||◌, List, [], ◌∷◌, ℕ, suc, ◌+◌, ◌*◌, ◌-◌, ◌≤◌, ◌<◌, eqb, length, get_or, set}
use Rattle.std.proofs.Common.{sym, ap, ◌∙◌, arith, length-set, ext_get_or}
use Rattle.std.specs.Bool.{beq}
use Rattle.std.proofs.lemmas.Bool.{false≢true}
use borrow.Rule.Slice.PartMut.{put_same}
use Rattle.words.specs.laws.Bits.{member}
use Rattle.words.specs.Lists.{tabulate}
use Rattle.words.specs.laws.Regions.{mid_long}
use Rattle.words.specs.laws.Truth.{beq_true}
use Rattle.effects.specs.Shape.{Sections, Cell, cell_at}
use Rattle.effects.specs.Effects.{all_reads}
use Rattle.flow.specs.Branch.{branch_inside}
use Rattle.flow.specs.Block.{block_of, block_count}
use Rattle.flow.specs.laws.Blocks.{block_start, Walk, block_walk, start_end, start_first}
use Rattle.flow.specs.laws.Marks.{Marked}
use Rattle.flow.specs.laws.Flags.{Flags}
use Rattle.use_def.specs.laws.Touched.{Within}
use Rattle.liveness.specs.Live.{Row, no_row, round_from, same_row, same_rows}
use Rattle.liveness.specs.laws.Rows.{Wide}
use Rattle.liveness.specs.laws.Shown.{row_at, Holds, Shown, shown_set, row_before, row_same, row_other}
use Rattle.liveness.specs.laws.Round.{walk, walk_end, walk_wide, block_rows, block_holds}
use Rattle.liveness.specs.laws.Out.{out_holds}
use Rattle.liveness.specs.laws.Visit.{Summed, Visited}

-- ---- the number of rows stays

perhaps_long : (t : Bool) (rows : List Row) (b : ℕ) (r : Row) → length (cond t (set rows b r) rows) ≡ length rows
perhaps_long true rows b r = length-set rows b r
perhaps_long false rows b r = refl

pub rows_long : (S : Sections) (n : ℕ) (leaders keep : List ℕ) (p : ℕ) (xs : List Cell) (rows : List Row) → length (round_from S n leaders keep p xs rows).rows ≡ length rows
unfolding round_from
rows_long S n leaders keep p [] rows = refl
rows_long S n leaders keep p (x ∷ xs) rows = perhaps_long (eqb (get_or leaders p 0) 1) (round_from S n leaders keep (suc p) xs rows).rows (block_of leaders p) _ ∙ rows_long S n leaders keep (suc p) xs rows

-- ---- the test on rows

beq_refl : (a : Bool) → beq a a ≡ true
beq_refl true = refl
beq_refl false = refl

same_row_lem : (x y : Row) → same_row x y ≡ true → x ≡ y
unfolding same_row
same_row_lem [] [] e = refl
same_row_lem [] (b ∷ y) e = absurd (false≢true e)
same_row_lem (a ∷ x) [] e = absurd (false≢true e)
same_row_lem (a ∷ x) (b ∷ y) e = go (beq a b) refl e (same_row_lem x y)
  where
    go : (t : Bool) → beq a b ≡ t → cond t (same_row x y) false ≡ true → (same_row x y ≡ true → x ≡ y) → a ∷ x ≡ b ∷ y
    go true q r ih = let h : a ≡ b = beq_true a b q in let t : x ≡ y = ih r in cc
    go false q r ih = absurd (false≢true r)

pub same_rows_lem : (x y : List Row) → same_rows x y ≡ true → x ≡ y
unfolding same_rows
same_rows_lem [] [] e = refl
same_rows_lem [] (b ∷ y) e = absurd (false≢true e)
same_rows_lem (a ∷ x) [] e = absurd (false≢true e)
same_rows_lem (a ∷ x) (b ∷ y) e = go (same_row a b) refl e (same_rows_lem x y)
  where
    go : (t : Bool) → same_row a b ≡ t → cond t (same_rows x y) false ≡ true → (same_rows x y ≡ true → x ≡ y) → a ∷ x ≡ b ∷ y
    go true q r ih = let h : a ≡ b = same_row_lem a b q in let t : x ≡ y = ih r in cc
    go false q r ih = absurd (false≢true r)

row_refl : (x : Row) → same_row x x ≡ true
unfolding same_row
row_refl [] = refl
row_refl (a ∷ x) = rw (beq_refl a) (row_refl x)

pub rows_refl : (x : List Row) → same_rows x x ≡ true
unfolding same_rows
rows_refl [] = refl
rows_refl (a ∷ x) = rw (row_refl a) (rows_refl x)

-- ---- what a round starts from

pub record Around (S : Sections) (leaders keep : List ℕ) (cells : List Cell) (w count : ℕ) (rows : List Row) (blocks starts uses preserved live : List ℕ) : Type 0 where
  pub long : length leaders ≡ length cells
  pub flags : Flags leaders
  pub one : Marked leaders 0
  pub some : 0 < length cells
  pub wide : Wide S (length cells) leaders keep rows
  pub total : count ≡ block_count leaders
  pub each : length rows ≡ block_count leaders
  pub numbers : blocks ≡ tabulate (length cells) (block_of leaders)
  pub places : (b : ℕ) → b ≤ count → get_or starts b 0 ≡ block_start leaders b
  pub room : S.locals ≤ 64 * w
  pub long_uses : length uses ≡ w * count
  pub within : (p : ℕ) → Within S.locals (all_reads S.tables (cell_at cells p))
  pub inside : (p : ℕ) → p < length cells → branch_inside (length cells) p (cell_at cells p).instruction ≡ true
  pub summed : Summed S.tables keep cells w starts uses preserved count
  pub shown : Shown w (no_row S (length cells) leaders keep) rows live

-- the blocks from b on are visited
pub record Rounding (S : Sections) (leaders keep : List ℕ) (cells : List Cell) (w count : ℕ) (rows : List Row) (live₀ live : List ℕ) (b : ℕ) (changed : Bool) : Type 0 where
  pub shown : Shown w (no_row S (length cells) leaders keep) (walk S leaders keep cells rows (block_start leaders b)).rows live
  pub rest : (a : ℕ) → a < b → row_at w live a ≡ row_at w live₀ a
  pub same : changed ≡ false → live ≡ live₀
  pub other : changed ≡ true → ((a : ℕ) → b ≤ a → a < count → (t : ℕ) → member (row_at w live a) t ≡ member (row_at w live₀ a) t) → ⊥

-- what a round ends with
pub record Rounded (S : Sections) (leaders keep : List ℕ) (cells : List Cell) (w : ℕ) (rows : List Row) (live : List ℕ) (changed : Bool) : Type 0 where
  pub shown : Shown w (no_row S (length cells) leaders keep) (round_from S (length cells) leaders keep 0 cells rows).rows live
  pub stays : same_rows rows (round_from S (length cells) leaders keep 0 cells rows).rows ≡ not changed

module _ (S : Sections) (leaders keep : List ℕ) (cells : List Cell) (w count : ℕ) (rows : List Row) (blocks starts uses preserved live₀ : List ℕ)
    (a : Around S leaders keep cells w count rows blocks starts uses preserved live₀) where
  abbrev none : Row
  none = no_row S (length cells) leaders keep

  pub rounding_begin : Rounding S leaders keep cells w count rows live₀ live₀ count false
  rounding_begin =
      let end : block_start leaders count ≡ length cells = rw a.total (start_end leaders a.flags ∙ a.long) in
      let start : (walk S leaders keep cells rows (block_start leaders count)).rows ≡ rows = rw end (walk_end S leaders keep cells rows a.wide) in
      record { shown = rw start a.shown; rest = λ i h. refl; same = λ e. refl; other = λ e f. false≢true e }

  module _ (live live' : List ℕ) (b q p : ℕ) (changed r : Bool) (e : b ≡ q + 1) (below : q < count) (place : p ≡ get_or starts (q + 1) 0 - 1)
      (s : Rounding S leaders keep cells w count rows live₀ live b changed)
      (v : Visited w q p (length cells) (cell_at cells p).instruction blocks uses preserved live live' r) where
    abbrev before : List Row
    before = (walk S leaders keep cells rows (block_start leaders (q + 1))).rows

    under : q < block_count leaders
    under = rw (← a.total) below

    many : length before ≡ block_count leaders
    many = rows_long S (length cells) leaders keep (block_start leaders (q + 1)) _ rows ∙ a.each

    held : Shown w none before live
    held = rw e at s.shown

    last : p ≡ block_start leaders (q + 1) - 1
    last = place ∙ ap (λ (k : ℕ). k - 1) (a.places (q + 1) (omega arith))

    way : Walk leaders a.flags q
    way = block_walk leaders a.flags q under

    inner : p < length cells
    inner = omega (arith, way.some, way.within, a.long, last)

    fits : w * q + w ≤ length live
    fits = rw (held.long, many) (row_before w q (block_count leaders) under)

    row_holds : Holds v.row (walk S leaders keep cells rows (block_start leaders q)).before
    row_holds =
        let out = out_holds S (length cells) leaders keep a.long a.flags a.one w before live blocks many a.numbers held p (cell_at cells p) v.out (a.inside p inner) v.outs in
        let sum = rw (a.places q (omega arith), a.places (q + 1) (omega arith)) at (a.summed.each q below) in
        block_holds S leaders keep cells rows a.wide a.long a.flags q under w (row_at w uses q) (row_at w preserved q) v.out v.row a.within a.room wide_uses v.long sum (rw last at out) v.bits
      where
        wide_uses : length (row_at w uses q) ≡ w
        wide_uses = mid_long uses (w * q) w (rw a.long_uses (row_before w q count below))

    other_row : (i : ℕ) → i < count → (i ≡ q → ⊥) → row_at w live' i ≡ row_at w live i
    other_row i h d =
        let few : i < block_count leaders = rw (← a.total) h in
        let room : w * i + w ≤ length live = rw (held.long, many) (row_before w i (block_count leaders) few) in
        rw v.put (row_other w live v.row q fits v.long i room d)

    this_row : row_at w live' q ≡ v.row
    this_row = rw v.put (row_same w live v.row q fits v.long)

    pub rounding_turn : Rounding S leaders keep cells w count rows live₀ live' q (changed || r)
    rounding_turn =
        let made = shown_set w none before live v.row q (walk S leaders keep cells rows (block_start leaders q)).before held (rw many under) v.long row_holds in
        record {
          shown = rw (block_rows S leaders keep cells rows a.wide a.long a.flags q under, v.put) made;
          rest = λ i h. other_row i (omega arith) (λ d. omega arith) ∙ s.rest i (omega arith);
          same = same changed r s.same v.moved.no;
          other = λ x f. other changed r s.other v.moved.yes x f;
        }
      where
        same : (c r : Bool) → (c ≡ false → live ≡ live₀) → (r ≡ false → v.row ≡ row_at w live q) → (c || r) ≡ false → live' ≡ live₀
        same true r f g x = absurd (false≢true (sym x))
        same false true f g x = absurd (false≢true (sym x))
        same false false f g x = v.put ∙ rw (g refl) (put_same (w * q) w live) ∙ f refl

        other : (c r : Bool) → (c ≡ true → ((i : ℕ) → b ≤ i → i < count → (t : ℕ) → member (row_at w live i) t ≡ member (row_at w live₀ i) t) → ⊥)
            → (r ≡ true → ((t : ℕ) → member v.row t ≡ member (row_at w live q) t) → ⊥)
            → (c || r) ≡ true → ((i : ℕ) → q ≤ i → i < count → (t : ℕ) → member (row_at w live' i) t ≡ member (row_at w live₀ i) t) → ⊥
        other true r f g x h = f refl (λ i m k t. ap (λ (l : List ℕ). member l t) (sym (other_row i k (λ d. omega arith))) ∙ h i (omega arith) k t)
        other false true f g x h =
            g refl (λ t. ap (λ (l : List ℕ). member l t) (sym this_row) ∙ h q (omega arith) below t ∙ ap (λ (l : List ℕ). member l t) (sym (s.rest q (omega arith))))
        other false false f g x h = false≢true x

  module _ (live : List ℕ) (changed : Bool) (s : Rounding S leaders keep cells w count rows live₀ live 0 changed) where
    abbrev next : List Row
    next = (round_from S (length cells) leaders keep 0 cells rows).rows

    first : block_start leaders 0 ≡ 0
    first = start_first leaders a.flags a.one (rw a.long a.some)

    final : Shown w none next live
    final = rw first at s.shown

    next_long : length next ≡ length rows
    next_long = rows_long S (length cells) leaders keep 0 cells rows

    pub rounding_end : Rounded S leaders keep cells w rows live changed
    rounding_end = record { shown = final; stays = stays changed s.same s.other }
      where
        equal : live ≡ live₀ → rows ≡ next
        equal e = ext_get_or none rows next (sym next_long) (λ b h. ext_get_or false (get_or rows b none) (get_or next b none) (a.wide b ∙ sym (walk_wide S leaders keep cells rows a.wide 0 b))
            (λ t g. sym (a.shown.held b h t) ∙ ap (λ (l : List ℕ). member (row_at w l b) t) (sym e) ∙ final.held b (rw next_long h) t))

        stays : (c : Bool) → (c ≡ false → live ≡ live₀) → (c ≡ true → ((i : ℕ) → 0 ≤ i → i < count → (t : ℕ) → member (row_at w live i) t ≡ member (row_at w live₀ i) t) → ⊥) → same_rows rows next ≡ not c
        stays false f g = ap (λ (l : List Row). same_rows rows l) (sym (equal (f refl))) ∙ rows_refl rows
        stays true f g = go (same_rows rows next) refl
          where
            go : (u : Bool) → same_rows rows next ≡ u → same_rows rows next ≡ false
            go false q = q
            go true q =
                let e : rows ≡ next = same_rows_lem rows next q in
                absurd (g refl (λ i l h t.
                let k : i < length rows = rw (a.each, ← a.total) h in
                final.held i (rw next_long k) t ∙ ap (λ (r : List Row). get_or (get_or r i none) t false) (sym e) ∙ sym (a.shown.held i k t)))
