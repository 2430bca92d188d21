-- Definitions. Live slots. A row tells for each of the s slots whether it is live; there is one row for each block, the slots that are live
-- where the block starts.
-- Assumes nothing.
use Rattle.std.specs.Prelude.{Option, None, Some, Bool, true, false, cond, not, ◌&&◌, ◌||◌, List, [], ◌∷◌, ◌++◌, ℕ, zero, suc, ◌*◌, ◌/◌, eqb, leb, ltb, length, get_or, set, replicate}
use Rattle.std.specs.Bool.{beq}
use Rattle.words.specs.Lists.{map_from}
use Rattle.instruction.specs.Instruction.{class}
use Rattle.unit.specs.Size.{set_words, max_set_words}
use Rattle.effects.specs.Shape.{Tables, Sections, Cell}
use Rattle.effects.specs.Effects.{all_reads, sure_writes, range_has, any_of}
use Rattle.flow.specs.Branch.{falls, branches, target}
use Rattle.flow.specs.Block.{block_of, block_count}
use Rattle.pc_map.specs.Boundary.{is_kept}

abbrev pub Row : Type 0
Row = List Bool

-- what is live before an instruction, of what is live after it; a perhaps written range "no longer ends a slot's life" (document 02, L5)
unfoldable pub live_before : Tables → Cell → Row → Row
live_before T x row =
    let reads = all_reads T x in
    let written = sure_writes T x in
    map_from (λ t live. any_of (range_has t) reads || (live && not (any_of (range_has t) written))) 0 row

unfoldable pub union : Row → Row → Row
union [] ys = ys
union (x ∷ xs) [] = x ∷ xs
union (x ∷ xs) (y ∷ ys) = (x || y) ∷ union xs ys

unfoldable pub same_row : Row → Row → Bool
same_row [] [] = true
same_row [] (y ∷ ys) = false
same_row (x ∷ xs) [] = false
same_row (x ∷ xs) (y ∷ ys) = let rest = same_row xs ys in cond (beq x y) rest false

unfoldable pub same_rows : List Row → List Row → Bool
same_rows [] [] = true
same_rows [] (y ∷ ys) = false
same_rows (x ∷ xs) [] = false
same_rows (x ∷ xs) (y ∷ ys) = let rest = same_rows xs ys in cond (same_row x y) rest false

-- the places after a block's last place: the branches' of the rewritten code, without those of loop hints
unfoldable pub edges : ℕ → ℕ → Cell → List ℕ
edges n p x =
    cond (falls (class x.instruction) && ltb (suc p) n) (suc p ∷ []) []
    ++ cond (branches (class x.instruction)) (target p x.instruction ∷ []) []

-- a block's last place: the next one starts a block, or there is none
abbrev pub is_last : ℕ → List ℕ → ℕ → Bool
is_last n leaders p = eqb (suc p) n || eqb (get_or leaders (suc p) 0) 1

module _ (S : Sections) (n : ℕ) (leaders keep : List ℕ) where
  unfoldable pub no_row : Row
  no_row = replicate S.locals false

  unfoldable pub joined : List Row → List ℕ → Row
  joined rows [] = no_row
  joined rows (q ∷ qs) = union (get_or rows (block_of leaders q) no_row) (joined rows qs)

  -- what is live after place p, of what is live before the next one: at a block's end, what is live at its successors' starts
  unfoldable pub live_after : List Row → ℕ → Cell → Row → Row
  live_after rows p x next = let out = joined rows (edges n p x) in cond (is_last n leaders p) out next

  -- what is known after the cells from place p on were walked, from the end: the rows, and what is live before p
  pub record Walked : Type 0 where
    pub rows : List Row
    pub before : Row

  -- one round: "last block to first", each block's row made anew of the rows as they are
  unfoldable pub round_from : ℕ → List Cell → List Row → Walked
  round_from p [] rows = record { rows = rows; before = no_row }
  round_from p (x ∷ xs) rows =
      let r = round_from (suc p) xs rows in
      let after = live_after r.rows p x r.before in
      let before = cond (is_kept keep p) (live_before S.tables x after) after in
      record { rows = cond (eqb (get_or leaders p 0) 1) (set r.rows (block_of leaders p) before) r.rows; before = before }

  -- at most k rounds, "until one changes nothing"
  unfoldable pub solve_in : ℕ → List Cell → List Row → Option (List Row)
  solve_in zero cells rows = None
  solve_in (suc k) cells rows =
      let next = (round_from 0 cells rows).rows in
      let again = solve_in k cells next in
      cond (same_rows rows next) (Some next) again

-- "when liveness work passes 16,777,216: w for each block visited": as many rounds as that allows
abbrev pub max_liveness_work : ℕ
max_liveness_work = 16777216

-- "dead stores are skipped when w = 0, when w × blocks exceeds 2,097,152, or when liveness work passes 16,777,216"
unfoldable pub live_rows : Sections → List ℕ → List ℕ → List Cell → Option (List Row)
live_rows S leaders keep cells =
    let w = set_words S.locals in
    let size = w * block_count leaders in
    let rows = solve_in S (length cells) leaders keep (max_liveness_work / size) cells (replicate (block_count leaders) (no_row S (length cells) leaders keep)) in
    cond (eqb w 0) None (cond (leb size max_set_words) rows None)
