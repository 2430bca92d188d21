-- The leaders are what is marked by going through the code once.
-- Assumes nothing.
use Rattle.std.specs.Prelude.{◌≡◌, ℕ, suc, ◌+◌, ◌<◌, ◌≤◌, Bool, true, false, cond, ◌&&◌, ◌||◌, List, [], ◌∷◌, ◌++◌, length, drop, set, replicate, ◌==◌, nat_lt, slice_index, slice_set}
use Rattle.std.proofs.Math.Path.{refl, sym, ap}
use Rattle.std.proofs.Common.{◌∙◌, add-one, arith, length-set, ext_get_or, drop-cons, ltb-true, ltb-false}
use Rattle.std.proofs.lemmas.List.{length-replicate, get_or-replicate}
use Rattle.std.proofs.Math.ListN.{get_or-eq_default}
use Rattle.std.proofs.Math.Seq.{drop-length}
use Rattle.words.specs.Lists.{is_in}
use Rattle.words.specs.laws.Lists.{length_tabulate, get_d_tabulate}
use Rattle.instruction.specs.declared.Instruction.{Instruction}
use Rattle.instruction.specs.Instruction.{class, of_word}
use Rattle.effects.specs.Shape.{Cell, cell_at, no_cell}
use Rattle.effects.specs.laws.Cells.{cells_by, cells_long, cell_at_lem}
use Rattle.flow.specs.Branch.{branches, target}
use Rattle.flow.specs.laws.Control.{is_control, ends_none}
use Rattle.flow.specs.Block.{ends_block, branch_targets, block_ends, is_leader, leaders}
use Rattle.flow.specs.laws.Block.{no_branch}
use Rattle.flow.specs.Reach.{mark_all}
use Rattle.flow.specs.laws.Marks.{Marked}
use Rattle.flow.specs.laws.Marking.{mark_append, mark_long, mark_at, set_at_is, in_append}
use Rattle.flow.specs.laws.Flags.{Flags}

-- the leaders that the instruction at place p makes: its target, and the place after it
abbrev pub starts : ℕ → Instruction → List ℕ
starts p i = cond (branches (class i)) (target p i ∷ []) [] ++ cond (ends_block (class i)) (suc p ∷ []) []

unfoldable pub starts_from : ℕ → List Cell → List ℕ
starts_from p [] = []
starts_from p (x ∷ xs) = starts p x.instruction ++ starts_from (suc p) xs

in_one : (b : Bool) (q t : ℕ) → is_in q (cond b (t ∷ []) []) ≡ (b && q == t)
in_one true q t = go (q == t)
  where
    go : (s : Bool) → cond s true false ≡ s
    go true = refl
    go false = refl
in_one false q t = refl

in_more : (b : Bool) (q t : ℕ) (l : List ℕ) → is_in q (cond b (t ∷ l) l) ≡ ((b && q == t) || is_in q l)
in_more true q t l = go (q == t) (is_in q l)
  where
    go : (s r : Bool) → cond s true r ≡ (s || r)
    go true r = refl
    go false r = refl
in_more false q t l = refl

in_starts : (q p : ℕ) (cells : List Cell) → is_in q (starts_from p cells) ≡ (is_in q (branch_targets p cells) || is_in q (block_ends p cells))
unfolding starts_from branch_targets block_ends
in_starts q p [] = refl
in_starts q p (x ∷ xs) =
    let i = x.instruction in
    in_append q (starts p i) (starts_from (suc p) xs)
    ∙ rw (
      in_append q (cond (branches (class i)) (target p i ∷ []) []) (cond (ends_block (class i)) (suc p ∷ []) []),
      in_starts q (suc p) xs,
      in_one (branches (class i)) q (target p i),
      in_one (ends_block (class i)) q (suc p),
      in_more (branches (class i)) q (target p i) (branch_targets (suc p) xs),
      in_more (ends_block (class i)) q (suc p) (block_ends (suc p) xs),
    )
    (shuffle (branches (class i) && q == target p i) (ends_block (class i) && q == suc p) (is_in q (branch_targets (suc p) xs)) (is_in q (block_ends (suc p) xs)))
  where
    shuffle : (u v a b : Bool) → ((u || v) || (a || b)) ≡ ((u || a) || (v || b))
    shuffle true v a b = refl
    shuffle false true true b = refl
    shuffle false true false b = refl
    shuffle false false a b = refl

-- the elements of `leaders`
pub leaders_long : (cells : List Cell) → length (leaders cells) ≡ length cells
unfolding leaders
leaders_long cells = length_tabulate (length cells) _

pub leaders_at : (cells : List Cell) (p : ℕ) → p < length cells → slice_index (leaders cells) p ≡ cond (is_leader cells p) 1 0
unfolding leaders
leaders_at cells p h = get_d_tabulate (length cells) _ p 0 h

pub leaders_first : (cells : List Cell) → 0 < length cells → Marked (leaders cells) 0
unfolding is_leader
leaders_first cells h = leaders_at cells 0 h

pub leaders_flags : (cells : List Cell) → Flags (leaders cells)
leaders_flags cells p = go (nat_lt p (length cells)) refl
  where
    bit : (t : Bool) → cond t 1 0 ≤ 1
    bit true = omega arith
    bit false = omega arith

    go : (t : Bool) → nat_lt p (length cells) ≡ t → slice_index (leaders cells) p ≤ 1
    go true e = rw (leaders_at cells p (ltb-true p (length cells) e)) (bit (is_leader cells p))
    go false e =
        let past : length (leaders cells) ≤ p = rw (leaders_long cells) (ltb-false p (length cells) e) in
        rw (get_or-eq_default (leaders cells) 0 past) (omega arith)

-- place 0, and what each instruction makes
pub leaders_marked : (cells : List Cell) → leaders cells ≡ mark_all (slice_set (replicate (length cells) 0) 0 1) (starts_from 0 cells)
unfolding is_leader
leaders_marked cells =
    let n = length cells in
    let first : List ℕ = set (replicate n 0) 0 1 in
    let long : length first ≡ n = simp (length-set, length-replicate) in
    ext_get_or 0 (leaders cells) (mark_all first (starts_from 0 cells)) (leaders_long cells ∙ sym (mark_long first (starts_from 0 cells) ∙ long)) (λ q h.
    let lt : q < n = rw leaders_long at h in
    let z : ◌≡◌ {A = ℕ} (slice_index (replicate n 0) q) 0 = get_or-replicate n q 0 0 lt in
    leaders_at cells q lt
    ∙ sym (mark_at first (starts_from 0 cells) q (rw long lt) ∙ rw (in_starts q 0 cells, set_at_is (replicate n 0) 0 q (rw (length-replicate {A = ℕ} n 0) lt), z) (either (q == 0) (is_in q (branch_targets 0 cells)) (is_in q (block_ends 0 cells)))))
  where
    either : (t u v : Bool) → ◌≡◌ {A = ℕ} (cond (u || v) 1 (cond t 1 0)) (cond (t || u || v) 1 0)
    either true true v = refl
    either true false true = refl
    either true false false = refl
    either false true v = refl
    either false false true = refl
    either false false false = refl

-- ---- a loop that marks them in lent memory: what is marked below place p, and what is left make the leaders

abbrev pub Leading : List ℕ → List ℕ → List ℕ → ℕ → Type 0
Leading words metadata marks p = mark_all marks (starts_from p (drop p (cells_by words metadata))) ≡ leaders (cells_by words metadata)

module _ (words metadata : List ℕ) where
  pub leading_begin : (zeros : List ℕ) (k : ℕ) → zeros ≡ replicate k 0 → k ≡ length words → Leading words metadata (slice_set zeros 0 1) 0
  leading_begin zeros k e h = rw (e, h, ← cells_long words metadata) (sym (leaders_marked (cells_by words metadata)))

  pub leading_turn : (marks marks' : List ℕ) (p : ℕ) (i : Instruction) → Leading words metadata marks p → p < length words → i ≡ of_word (slice_index words p)
      → marks' ≡ mark_all marks (starts p i) → Leading words metadata marks' (p + 1)
  unfolding starts_from
  leading_turn marks marks' p i e h same next =
      let cells = cells_by words metadata in
      let inside : p < length cells = rw (cells_long words metadata) h in
      let here : (cell_at cells p).instruction ≡ i = ap (λ (x : Cell). x.instruction) (cell_at_lem words metadata p h) ∙ sym same in
      rw (add-one p, next)
      (sym (mark_append marks (starts p i) (starts_from (suc p) (drop (suc p) cells)))
      ∙ ap (λ (j : Instruction). mark_all marks (starts p j ++ starts_from (suc p) (drop (suc p) cells))) (sym here)
      ∙ (rw (drop-cons cells p no_cell inside) at e))

  -- what is no control place marks nothing
  pub leading_idle : (marks : List ℕ) (p : ℕ) → p < length words → is_control (class (of_word (slice_index words p))) ≡ false → Leading words metadata marks p → Leading words metadata marks (p + 1)
  unfolding mark_all
  leading_idle marks p h e l =
      let i = of_word (slice_index words p) in
      let ends : ends_block (class i) ≡ false = ends_none (class i) e in
      leading_turn marks marks p i l h refl (rw (no_branch (class i) ends, ends))

  pub leading_end : (marks : List ℕ) (p : ℕ) → Leading words metadata marks p → p ≡ length words → marks ≡ leaders (cells_by words metadata)
  unfolding starts_from mark_all
  leading_end marks p e h = rw (h, ← cells_long words metadata, drop-length (cells_by words metadata)) at e
