-- A round of liveness block by block: each block's row is made of its two sets and of what is live at its end.
-- Assumes nothing.
use Rattle.std.specs.Prelude.{◌≡◌, refl, Bool, true, false, cond, not, ◌&&◌, ◌||◌, List, [], ◌∷◌, eqb, leb, ltb, length, set, drop}
use Rattle.std.proofs.Common.{sym, ◌∙◌, drop-cons, eq-eqb, ne_eqb, ltb-true, ltb-false, leb-true}
use Rattle.std.proofs.Math.Path.{ap}
use Prim.Native.Nat.{ℕ, zero, suc, ◌+◌, ◌*◌, ◌-◌, ◌≤◌, ◌<◌}
use Rattle.std.proofs.Math.Decide.{dec_le}
use native.Mathlib.Omega.{arith}
use Rattle.std.proofs.Math.ListN.{get_or}
use Rattle.std.proofs.Math.Seq.{drop-length}
use Rattle.words.specs.laws.Bits.{member}
use Rattle.effects.specs.declared.Range.{Range}
use Rattle.effects.specs.Shape.{Tables, Sections, Cell, cell_at, no_cell}
use Rattle.effects.specs.Effects.{all_reads, range_has, range_within, any_of, all_of}
use Rattle.words.specs.laws.Truth.{left_true, right_true}
use Rattle.effects.specs.laws.Sound.{within_slot}
use Rattle.flow.specs.Block.{block_of, block_count}
use Rattle.flow.specs.laws.Blocks.{block_start, Walk, block_walk, starting, start_end}
use Rattle.flow.specs.laws.Flags.{Flags}
use Rattle.pc_map.specs.Boundary.{is_kept}
use Rattle.use_def.specs.laws.Touched.{writing, touches, Within}
use Rattle.liveness.specs.Live.{Row, live_before, edges, is_last, joined, live_after, Walked, round_from}
use Rattle.liveness.specs.laws.Through.{live_bit, through, Summary}
use Rattle.liveness.specs.laws.Rows.{Wide, before_bit, joined_long, round_wide, after_long}
use Rattle.liveness.specs.laws.Shown.{Holds, member_past, bit_past}

-- ---- slots that no instruction reads

pub not_touched : (s t : ℕ) (l : List Range) → Within s l → s ≤ t → touches l t ≡ false
unfolding all_of any_of range_has
not_touched s t [] w h = refl
not_touched s t (r ∷ l) w h =
    go (leb r.start t) refl (ltb t (r.start + r.count)) refl (not_touched s t l (right_true (range_within s r) (all_of (range_within s) l) w) h)
  where
    go : (x : Bool) → leb r.start t ≡ x → (y : Bool) → ltb t (r.start + r.count) ≡ y → touches l t ≡ false → ((x && y) || touches l t) ≡ false
    go false p y q e = e
    go true p false q e = e
    go true p true q e =
        let below : t < s = within_slot s t r (left_true (range_within s r) (all_of (range_within s) l) w) (leb-true r.start t p) (ltb-true t (r.start + r.count) q) in
        absurd (omega arith)

not_live : (T : Tables) (keep : List ℕ) (cells : List Cell) (s t : ℕ) → ((p : ℕ) → Within s (all_reads T (cell_at cells p))) → s ≤ t → (p k : ℕ) → through T keep cells t p k false ≡ false
unfolding through
not_live T keep cells s t w h p zero = refl
not_live T keep cells s t w h p (suc k) = rw (not_live T keep cells s t w h (suc p) k, not_touched s t (all_reads T (cell_at cells p)) (w p) h) (go (is_kept keep p))
  where
    go : (x : Bool) → cond x (false || (false && not (writing T (cell_at cells p) t))) false ≡ false
    go true = refl
    go false = refl

module _ (S : Sections) (leaders keep : List ℕ) (cells : List Cell) where
  abbrev pub count : ℕ
  count = length cells

  abbrev pub walk : List Row → ℕ → Walked S (length cells) leaders keep
  walk rows p = round_from S (length cells) leaders keep p (drop p cells) rows

  -- what is live at a block's end, of rows; p is its last place
  abbrev pub out_of : List Row → ℕ → Row
  out_of rows p = joined S (length cells) leaders keep rows (edges (length cells) p (cell_at cells p))

  module _ (rows : List Row) (wide : Wide S (length cells) leaders keep rows) where
    abbrev after_at : ℕ → Row
    after_at p = live_after S (length cells) leaders keep (walk rows (suc p)).rows p (cell_at cells p) (walk rows (suc p)).before

    abbrev made : ℕ → Row
    made p = cond (is_kept keep p) (live_before S.tables (cell_at cells p) (after_at p)) (after_at p)

    walk_before : (p : ℕ) → p < length cells → (walk rows p).before ≡ made p
    unfolding round_from
    walk_before p h = rw (drop-cons cells p no_cell h)

    walk_rows : (p : ℕ) → p < length cells → (walk rows p).rows ≡ cond (eqb (get_or leaders p 0) 1) (set (walk rows (suc p)).rows (block_of leaders p) (made p)) (walk rows (suc p)).rows
    unfolding round_from
    walk_rows p h = rw (drop-cons cells p no_cell h)

    pub walk_wide : (p : ℕ) → Wide S (length cells) leaders keep (walk rows p).rows
    walk_wide p = (round_wide S (length cells) leaders keep p (drop p cells) rows wide).0

    pub before_wide : (p : ℕ) → length (walk rows p).before ≡ S.locals
    before_wide p = (round_wide S (length cells) leaders keep p (drop p cells) rows wide).1

    after_wide : (p : ℕ) → length (after_at p) ≡ S.locals
    after_wide p = after_long S (length cells) leaders keep (walk rows (suc p)).rows (walk_wide (suc p)) p (cell_at cells p) (walk rows (suc p)).before (λ e. before_wide (suc p))

    made_bit : (p t : ℕ) → t < S.locals → get_or (made p) t false ≡ live_bit S.tables (is_kept keep p) (cell_at cells p) t (get_or (after_at p) t false)
    made_bit p t h = go (is_kept keep p)
      where
        go : (k : Bool) → get_or (cond k (live_before S.tables (cell_at cells p) (after_at p)) (after_at p)) t false ≡ live_bit S.tables k (cell_at cells p) t (get_or (after_at p) t false)
        go true = before_bit S.tables (cell_at cells p) (after_at p) t (rw (after_wide p) h)
        go false = refl

    -- past the last place nothing is done
    pub walk_end : (walk rows (length cells)).rows ≡ rows
    unfolding round_from
    walk_end = rw (drop-length cells)

    module _ (long : length leaders ≡ length cells) (flags : Flags leaders) (b : ℕ) (below : b < block_count leaders) where
      abbrev first : ℕ
      first = block_start leaders b

      abbrev next : ℕ
      next = block_start leaders (b + 1)

      way : Walk leaders flags b
      way = block_walk leaders flags b below

      inside : next ≤ length cells
      inside = rw (← long) way.within

      rows_inside : (j p : ℕ) → p + j ≡ next → first < p → (walk rows p).rows ≡ (walk rows next).rows
      rows_inside zero p e h = let d : p ≡ next = omega arith in ap (λ (q : ℕ). (walk rows q).rows) d
      rows_inside (suc j) p e h =
          let room = inside in
          let no : eqb (get_or leaders p 0) 1 ≡ false = rw (way.inner p h (omega arith)) in
          walk_rows p (omega arith) ∙ rw no (rows_inside j (suc p) (omega arith) (omega arith))

      last : (p : ℕ) → suc p ≡ next → is_last (length cells) leaders p ≡ true
      last p e = rw e (go (ltb (b + 1) (block_count leaders)) refl)
        where
          or_right : (x y : Bool) → y ≡ true → (x || y) ≡ true
          or_right true y e = refl
          or_right false y e = e

          go : (u : Bool) → ltb (b + 1) (block_count leaders) ≡ u → (eqb next (length cells) || eqb (get_or leaders next 0) 1) ≡ true
          go true q = or_right (eqb next (length cells)) (eqb (get_or leaders next 0) 1) (eq-eqb (get_or leaders next 0) 1 (starting leaders flags (b + 1) (ltb-true (b + 1) (block_count leaders) q)).marked)
          go false q =
              let end : b + 1 ≡ block_count leaders = omega (arith, ltb-false (b + 1) (block_count leaders) q) in
              let stop : next ≡ length cells = ap (block_start leaders) end ∙ start_end leaders flags ∙ long in
              rw (eq-eqb next (length cells) stop)

      not_last : (p : ℕ) → first ≤ p → suc p < next → is_last (length cells) leaders p ≡ false
      not_last p h g =
          let room = inside in
          let d : suc p ≡ length cells → ⊥ = λ e. omega arith in
          rw (ne_eqb (suc p) (length cells) d, way.inner (suc p) (omega arith) g)

      before_bits : (j p : ℕ) → p + suc j ≡ next → first ≤ p → (t : ℕ) → t < S.locals
          → get_or (walk rows p).before t false ≡ through S.tables keep cells t p (suc j) (get_or (out_of (walk rows next).rows (next - 1)) t false)
      unfolding through live_after
      before_bits zero p e h t l =
          let room = inside in
          let end : suc p ≡ next = omega arith in
          let here : next - 1 ≡ p = omega arith in
          let after : after_at p ≡ out_of (walk rows next).rows (next - 1) = rw (last p end, here, end) in
          ap (λ (r : Row). get_or r t false) (walk_before p (omega arith)) ∙ made_bit p t l ∙ ap (λ (r : Row). live_bit S.tables (is_kept keep p) (cell_at cells p) t (get_or r t false)) after
      before_bits (suc j) p e h t l =
          let room = inside in
          let after : after_at p ≡ (walk rows (suc p)).before = rw (not_last p h (omega arith)) in
          ap (λ (r : Row). get_or r t false) (walk_before p (omega arith))
          ∙ made_bit p t l
          ∙ ap (λ (r : Row). live_bit S.tables (is_kept keep p) (cell_at cells p) t (get_or r t false)) after
          ∙ ap (λ (x : Bool). live_bit S.tables (is_kept keep p) (cell_at cells p) t x) (before_bits j (suc p) (omega arith) (omega arith) t l)

      -- the block's row is set, and no other
      pub block_rows : (walk rows (block_start leaders b)).rows ≡ set (walk rows (block_start leaders (b + 1))).rows b (walk rows (block_start leaders b)).before
      block_rows =
          let room = inside in
          let some = way.some in
          let yes : eqb (get_or leaders first 0) 1 ≡ true = eq-eqb (get_or leaders first 0) 1 way.start.marked in
          let number : block_of leaders first ≡ b = way.number first (omega arith) some in
          walk_rows first (omega arith)
          ∙ rw (yes, number, ← walk_before first (omega arith), rows_inside (next - suc first) (suc first) (omega arith) (omega arith))

      -- what the code makes of the block's sets is the block's row
      pub block_holds : (w : ℕ) (uses preserved out l : List ℕ) → ((p : ℕ) → Within S.locals (all_reads S.tables (cell_at cells p))) → S.locals ≤ 64 * w → length uses ≡ w → length l ≡ w
          → Summary S.tables keep cells uses preserved (block_start leaders b) (block_start leaders (b + 1) - block_start leaders b)
          → Holds out (out_of (walk rows (block_start leaders (b + 1))).rows (block_start leaders (b + 1) - 1))
          → ((t : ℕ) → member l t ≡ (member uses t || (member out t && member preserved t))) → Holds l (walk rows (block_start leaders b)).before
      block_holds w uses preserved out l within fits e d sum o f t = elim (dec_le S.locals t) [
        | yes h ↦ high h ∙ sym (bit_past (walk rows first).before t (rw (before_wide first) h))
        | no h ↦ low (omega arith)
      ]
        where
          outside : length (out_of (walk rows next).rows (next - 1)) ≡ S.locals
          outside = joined_long S (length cells) leaders keep (walk rows next).rows (walk_wide next) (edges (length cells) (next - 1) (cell_at cells (next - 1)))

          or_none : (x : Bool) → (x || false) ≡ x
          or_none true = refl
          or_none false = refl

          high : S.locals ≤ t → member l t ≡ false
          high h = elim (dec_le (64 * w) t) [
            | yes g ↦ member_past l t (rw d g)
            | no g ↦
                let room : t < 64 * length uses = rw e (omega arith) in
                let none : member uses t ≡ false = sym (or_none (member uses t)) ∙ sym (sum.whole t room false) ∙ not_live S.tables keep cells S.locals t within h first (next - first) in
                let end : member out t ≡ false = o t ∙ bit_past (out_of (walk rows next).rows (next - 1)) t (rw outside h) in
                f t ∙ rw (none, end)
          ]

          low : t < S.locals → member l t ≡ get_or (walk rows first).before t false
          low h =
              let some = way.some in
              let more : next - first ≡ suc (next - first - 1) = omega arith in
              let room : t < 64 * length uses = rw e (omega arith) in
              let out : Bool = get_or (out_of (walk rows next).rows (next - 1)) t false in
              let whole : through S.tables keep cells t first (next - first) out ≡ (member uses t || (out && member preserved t)) = sum.whole t room out in
              let bits : get_or (walk rows first).before t false ≡ through S.tables keep cells t first (suc (next - first - 1)) out = before_bits (next - first - 1) first (omega arith) (omega arith) t h in
              f t ∙ ap (λ (x : Bool). member uses t || (x && member preserved t)) (o t) ∙ sym whole ∙ ap (λ (k : ℕ). through S.tables keep cells t first k out) more ∙ sym bits
