-- Kept places and the list of retained cells: where each kept one goes.
-- Assumes nothing.
use Rattle.std.specs.Prelude.{◌≡◌, refl, Bool, true, false, cond, List, [], ◌∷◌, ℕ, zero, suc, ◌+◌, ◌-◌, ◌≤◌, ◌<◌, length}
use Rattle.std.proofs.Common.{◌∙◌, add-zero, zero-add, arith}
use Rattle.std.proofs.Math.Decide.{dec_le}
use Rattle.std.proofs.lemmas.List.{length-map}
use Rattle.effects.specs.Shape.{Cell, cell_at}
use Rattle.flow.specs.laws.Flags.{Flags}
use Rattle.pc_map.specs.Boundary.{is_kept, boundary}
use Rattle.pc_map.specs.laws.Boundaries.{boundary_zero, boundary_kept, boundary_dropped, boundary_mono}
use Rattle.pc_map.specs.Relocate.{relocate, retain_from}
use Rattle.answer.specs.Clean.{retained_cell, cells_after}

retained_at_lem : (keep : List ℕ) → Flags keep → (q : ℕ) (xs : List Cell) → q + length xs ≡ length keep → (k : ℕ) → k < length xs → is_kept keep (q + k) ≡ true
    → cell_at (cells_after (retain_from keep q xs)) (boundary keep (q + k) - boundary keep q) ≡ relocate keep (q + k) (cell_at xs k)
unfolding retain_from
retained_at_lem keep b q [] e k h y = absurd (omega arith)
retained_at_lem keep b q (x ∷ xs) e zero h y =
    let i : q + 0 ≡ q = add-zero q in
    let z : boundary keep (q + 0) - boundary keep q ≡ 0 = rw i (omega arith) in
    let y' : is_kept keep q ≡ true = rw i at y in
    rw (z, y', i)
retained_at_lem keep b q (x ∷ xs) e (suc k) h y =
    let i : q + suc k ≡ suc q + k = omega arith in
    let y' : is_kept keep (suc q + k) ≡ true = rw i at y in
    let l : suc q + length xs ≡ length keep = omega arith in
    let r = retained_at_lem keep b (suc q) xs l k (omega arith) y' in
    rw i (go (is_kept keep q) refl r)
  where
    up : boundary keep (suc q) ≤ boundary keep (suc q + k)
    up = boundary_mono keep (suc q) (suc q + k) (omega arith)

    go : (t : Bool) → is_kept keep q ≡ t → cell_at (cells_after (retain_from keep (suc q) xs)) (boundary keep (suc q + k) - boundary keep (suc q)) ≡ relocate keep (suc q + k) (cell_at xs k)
        → cell_at (cells_after (cond t (record { instruction = (relocate keep q x).instruction; metadata = (relocate keep q x).metadata; place = q } ∷ retain_from keep (suc q) xs) (retain_from keep (suc q) xs)))
        (boundary keep (suc q + k) - boundary keep q)
        ≡ relocate keep (suc q + k) (cell_at xs k)
    go true t r =
        let s = boundary_kept keep q (omega arith) t in
        let u = up in
        let d : boundary keep (suc q + k) - boundary keep q ≡ suc (boundary keep (suc q + k) - boundary keep (suc q)) = omega arith in
        rw d r
    go false t r =
        let s = boundary_dropped keep b q (omega arith) t in
        rw (← s) r

retained_long : (keep : List ℕ) → Flags keep → (q : ℕ) (xs : List Cell) → q + length xs ≡ length keep
    → boundary keep q + length (retain_from keep q xs) ≡ boundary keep (length keep)
unfolding retain_from
retained_long keep b q [] e = let i : q ≡ length keep = omega arith in rw i (omega arith)
retained_long keep b q (x ∷ xs) e = go (is_kept keep q) refl (retained_long keep b (suc q) xs (omega arith))
  where
    go : (t : Bool) → is_kept keep q ≡ t → boundary keep (suc q) + length (retain_from keep (suc q) xs) ≡ boundary keep (length keep)
        → boundary keep q
        + length (cond t (record { instruction = (relocate keep q x).instruction; metadata = (relocate keep q x).metadata; place = q } ∷ retain_from keep (suc q) xs) (retain_from keep (suc q) xs))
        ≡ boundary keep (length keep)
    go true t r = let s = boundary_kept keep q (omega arith) t in omega arith
    go false t r = let s = boundary_dropped keep b q (omega arith) t in omega arith

-- q is the boundary of a kept place before m
abbrev pub KeptBelow : List ℕ → ℕ → ℕ → Type 0
KeptBelow keep q m = (p : ℕ) × (p < m) × (is_kept keep p ≡ true) × (boundary keep p ≡ q)

kept_below : (keep : List ℕ) → Flags keep → (q m : ℕ) → m ≤ length keep → q < boundary keep m → KeptBelow keep q m
kept_below keep b q zero h l = let z = boundary_zero keep in absurd (omega arith)
kept_below keep b q (suc m) h l = go (is_kept keep m) refl (kept_below keep b q m (omega arith))
  where
    later : KeptBelow keep q m → KeptBelow keep q (suc m)
    later (p, l, k, e) = (p, omega arith, k, e)

    go : (t : Bool) → is_kept keep m ≡ t → (q < boundary keep m → KeptBelow keep q m) → KeptBelow keep q (suc m)
    go true t ih =
        let s = boundary_kept keep m (omega arith) t in
        elim (dec_le (boundary keep m) q) [ yes g ↦ (m, omega arith, t, omega arith) | no g ↦ later (ih (omega arith)) ]
    go false t ih = let s = boundary_dropped keep b m (omega arith) t in later (ih (omega arith))

module _ (keep : List ℕ) (b : Flags keep) (cells : List Cell) (long : length cells ≡ length keep) where
  -- a kept cell, relocated, stands at its boundary
  pub kept_at : (p : ℕ) → p < length cells → is_kept keep p ≡ true → cell_at (cells_after (retain_from keep 0 cells)) (boundary keep p) ≡ relocate keep p (cell_at cells p)
  kept_at p h y =
      let z : 0 + p ≡ p = zero-add p in
      let r = retained_at_lem keep b 0 cells (rw zero-add long) p h (rw z y) in
      let d : boundary keep (0 + p) - boundary keep 0 ≡ boundary keep p = rw (z, boundary_zero keep) (omega arith) in
      rw (d, z) at r

  pub kept_long : length (cells_after (retain_from keep 0 cells)) ≡ boundary keep (length cells)
  kept_long =
      let r = retained_long keep b 0 cells (rw zero-add long) in
      let z = boundary_zero keep in
      length-map (retain_from keep 0 cells) retained_cell ∙ rw long (omega arith)

  pub kept_inside : (p : ℕ) → p < length cells → is_kept keep p ≡ true → boundary keep p < length (cells_after (retain_from keep 0 cells))
  kept_inside p h y =
      let s = boundary_kept keep p (omega arith) y in
      let u = boundary_mono keep (suc p) (length cells) (omega arith) in
      rw kept_long (omega arith)

  -- a retained cell is a kept one, relocated
  pub kept_of : (q : ℕ) → q < length (cells_after (retain_from keep 0 cells)) → KeptBelow keep q (length cells)
  kept_of q h = kept_below keep b q (length cells) (omega arith) (rw kept_long at h)
