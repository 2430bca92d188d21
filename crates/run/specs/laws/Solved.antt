-- A round of liveness that changes nothing has found a solution: each block's row is what its walk from the end gives.
-- Assumes nothing.
use Rattle.std.proofs.Math.Path.{◌≡◌, refl}
use Rattle.std.proofs.Common.{sym, ap, ◌∙◌, arith, length-drop, drop-cons, get_or-set_same, get_or-set_other, ext_get_or, eqb-true, eq-eqb}
use Rattle.std.specs.Prelude.{Some, Bool, eqb, get_or, set, drop}
use Rattle.std.proofs.Math.Bool.{true, false, cond}
use mathlib.Core.List.{List, [], ◌∷◌}
use Prim.Native.Nat.{ℕ, zero, suc, ◌+◌, ◌≤◌, ◌<◌}
use Rattle.std.proofs.Math.Decide.{ℕ_discrete}
use Rattle.std.proofs.Math.ListN.{length}
use Rattle.effects.specs.Shape.{Sections, Cell, cell_at, no_cell}
use Rattle.flow.specs.Block.{block_of, block_count}
use Rattle.flow.specs.laws.Marks.{Marked}
use Rattle.flow.specs.laws.Flags.{Flags, sum_mono, sum_next, sum_first}
use Rattle.flow.specs.laws.Blocks.{block_below}
use Rattle.pc_map.specs.Boundary.{is_kept}
use Rattle.liveness.specs.Live.{Row, live_before, live_after, no_row, Walked, round_from, solve_in, same_rows}
use Rattle.liveness.specs.laws.Rounding.{rows_long, same_rows_lem}

perhaps_other : (t : Bool) (rows : List Row) (b i : ℕ) (r d : Row) → (t ≡ true → i ≡ b → ⊥) → get_or (cond t (set rows b r) rows) i d ≡ get_or rows i d
perhaps_other true rows b i r d f = get_or-set_other rows b i r d (f refl)
perhaps_other false rows b i r d f = refl

-- a later leader is in a later block
pub block_later : (leaders : List ℕ) → Marked leaders 0 → (p q : ℕ) → p < q → q < length leaders → Marked leaders q → block_of leaders p < block_of leaders q
block_later leaders one p q h l m =
    let a = sum_next leaders q l in
    let b = sum_mono leaders (suc p) q h in
    let c = sum_first leaders (suc p) one (omega arith) in
    omega arith

module _ (S : Sections) (leaders keep : List ℕ) (cells : List Cell) where
  abbrev n : ℕ
  n = length cells

  -- rows that are found are at rest
  pub solved : (k : ℕ) (rows found : List Row) → solve_in S n leaders keep k cells rows ≡ Some found → (round_from S n leaders keep 0 cells found).rows ≡ found
  unfolding solve_in
  solved zero rows found e = let z : ◌≡◌ {A = ℕ} 0 1 = cc in absurd (omega arith)
  solved (suc k) rows found e = go (same_rows rows (round_from S n leaders keep 0 cells rows).rows) refl e (solved k (round_from S n leaders keep 0 cells rows).rows found)
    where
      go : (t : Bool) → same_rows rows (round_from S n leaders keep 0 cells rows).rows ≡ t
          → cond t (Some (round_from S n leaders keep 0 cells rows).rows) (solve_in S n leaders keep k cells (round_from S n leaders keep 0 cells rows).rows) ≡ Some found
          → (solve_in S n leaders keep k cells (round_from S n leaders keep 0 cells rows).rows ≡ Some found → (round_from S n leaders keep 0 cells found).rows ≡ found)
          → (round_from S n leaders keep 0 cells found).rows ≡ found
      go true q r ih =
          let same : rows ≡ (round_from S n leaders keep 0 cells rows).rows = same_rows_lem rows (round_from S n leaders keep 0 cells rows).rows q in
          let f : (round_from S n leaders keep 0 cells rows).rows ≡ found = cc in
          let g : rows ≡ found = same ∙ f in
          rw (← g) (sym same)
      go false q r ih = ih r

  -- the number of rows stays over all rounds
  pub solve_long : (k : ℕ) (rows found : List Row) → solve_in S n leaders keep k cells rows ≡ Some found → length found ≡ length rows
  unfolding solve_in
  solve_long zero rows found e = let z : ◌≡◌ {A = ℕ} 0 1 = cc in absurd (omega arith)
  solve_long (suc k) rows found e = go (same_rows rows (round_from S n leaders keep 0 cells rows).rows) e (solve_long k (round_from S n leaders keep 0 cells rows).rows found)
    where
      go : (t : Bool) → cond t (Some (round_from S n leaders keep 0 cells rows).rows) (solve_in S n leaders keep k cells (round_from S n leaders keep 0 cells rows).rows) ≡ Some found
          → (solve_in S n leaders keep k cells (round_from S n leaders keep 0 cells rows).rows ≡ Some found → length found ≡ length (round_from S n leaders keep 0 cells rows).rows)
          → length found ≡ length rows
      go true e ih = let f : (round_from S n leaders keep 0 cells rows).rows ≡ found = cc in rw (← f) (rows_long S n leaders keep 0 cells rows)
      go false e ih = ih e ∙ rows_long S n leaders keep 0 cells rows

  -- a row that no later leader has is not touched
  untouched : (i : ℕ) (q : ℕ) (xs : List Cell) (rows : List Row) → ((p : ℕ) → q ≤ p → p < q + length xs → Marked leaders p → block_of leaders p ≡ i → ⊥)
      → get_or (round_from S n leaders keep q xs rows).rows i (no_row S n leaders keep) ≡ get_or rows i (no_row S n leaders keep)
  unfolding round_from
  untouched i q [] rows f = refl
  untouched i q (x ∷ xs) rows f =
      perhaps_other (eqb (get_or leaders q 0) 1) (round_from S n leaders keep (suc q) xs rows).rows (block_of leaders q) i _ (no_row S n leaders keep)
      (λ e d. f q (omega arith) (omega arith) (eqb-true (get_or leaders q 0) 1 e) (sym d))
      ∙ untouched i (suc q) xs rows (λ p a b. f p (omega arith) (omega arith))

  module _ (long : length leaders ≡ n) (flags : Flags leaders) (one : Marked leaders 0) (rows : List Row) (count : length rows ≡ block_count leaders)
      (rest : (round_from S n leaders keep 0 cells rows).rows ≡ rows) where
    abbrev walk : ℕ → Walked S n leaders keep
    walk p = round_from S n leaders keep p (drop p cells) rows

    abbrev made : ℕ → Row
    made p =
        let after = live_after S n leaders keep (walk (suc p)).rows p (cell_at cells p) (walk (suc p)).before in
        cond (is_kept keep p) (live_before S.tables (cell_at cells p) after) after

    -- one place of the walk
    walk_before : (p : ℕ) → p < n → (walk p).before ≡ made p
    unfolding round_from
    walk_before p h = rw (drop-cons cells p no_cell h)

    walk_rows : (p : ℕ) → p < n → (walk p).rows ≡ cond (eqb (get_or leaders p 0) 1) (set (walk (suc p)).rows (block_of leaders p) (made p)) (walk (suc p)).rows
    unfolding round_from
    walk_rows p h = rw (drop-cons cells p no_cell h)

    -- at every place the rows are as they were
    pub rows_same : (p : ℕ) → p ≤ n → (walk p).rows ≡ rows
    rows_same zero h = rest
    rows_same (suc p) h = go (eqb (get_or leaders p 0) 1) refl (walk_rows p h) (rows_same p (omega arith))
      where
        go : (t : Bool) → eqb (get_or leaders p 0) 1 ≡ t → (walk p).rows ≡ cond t (set (walk (suc p)).rows (block_of leaders p) (made p)) (walk (suc p)).rows → (walk p).rows ≡ rows
            → (walk (suc p)).rows ≡ rows
        go false e w r = sym w ∙ r
        go true e w r = ext_get_or (no_row S n leaders keep) (walk (suc p)).rows rows (rows_long S n leaders keep (suc p) (drop (suc p) cells) rows) each
          where
            inside : (q : ℕ) → q < suc p + length (drop (suc p) cells) → q < n
            inside q l = let e = length-drop (suc p) cells in omega arith

            each : (i : ℕ) → i < length (walk (suc p)).rows → get_or (walk (suc p)).rows i (no_row S n leaders keep) ≡ get_or rows i (no_row S n leaders keep)
            each i l = elim (ℕ_discrete i (block_of leaders p)) [
              | yes d ↦ untouched i (suc p) (drop (suc p) cells) rows (λ q a b m c. let k : q < n = inside q b in let u = block_later leaders one p q a (rw long k) m in omega arith)
              | no d ↦ sym (get_or-set_other (walk (suc p)).rows (block_of leaders p) i (made p) (no_row S n leaders keep) d) ∙ ap (λ (l : List Row). get_or l i (no_row S n leaders keep)) (sym w ∙ r)
            ]

    -- what is live before each place, of the rows alone
    pub whole_at : (p : ℕ) → p < n
        → (walk p).before
        ≡ (let after = live_after S n leaders keep rows p (cell_at cells p) (walk (suc p)).before in cond (is_kept keep p) (live_before S.tables (cell_at cells p) after) after)
    whole_at p h = walk_before p h ∙ rw (rows_same (suc p) h)

    -- a block's row is what is live before its first place
    pub row_at : (q : ℕ) → q < n → Marked leaders q → get_or rows (block_of leaders q) (no_row S n leaders keep) ≡ (walk q).before
    row_at q h m =
        let below : block_of leaders q < length (walk (suc q)).rows = rw (rows_same (suc q) h, count) (block_below leaders flags one q (rw long h)) in
        let w : (walk q).rows ≡ set (walk (suc q)).rows (block_of leaders q) (made q) = walk_rows q h ∙ rw (eq-eqb (get_or leaders q 0) 1 m) in
        ap (λ (l : List Row). get_or l (block_of leaders q) (no_row S n leaders keep)) (sym (rows_same q (omega arith)) ∙ w)
        ∙ get_or-set_same (walk (suc q)).rows (block_of leaders q) (made q) (no_row S n leaders keep) below
        ∙ sym (walk_before q h)
