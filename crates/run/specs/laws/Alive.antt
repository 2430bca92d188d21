-- The sweep that drops dead stores: what is live at a place covers what may still be read from there.
-- Assumes nothing.
use Rattle.std.specs.Prelude.{◌≡◌, Bool, cond, not, ◌&&◌, ◌||◌, ℕ, zero, suc, ◌+◌, ◌-◌, ◌≤◌, ◌<◌, eqb, length, get_or, drop}
use Rattle.std.proofs.Math.Path.{refl, ap}
use Rattle.std.proofs.Common.{sym, ◌∙◌, true≢false, add-zero, add-one, arith, drop_of_length-le, drop-drop, get_or-drop}
use Rattle.std.proofs.Math.Bool.{true, false}
use Rattle.std.proofs.lemmas.Bool.{false≢true}
use mathlib.Core.List.{List, [], ◌∷◌}
use Rattle.std.proofs.Math.Decide.{dec_le}
use Rattle.std.proofs.Math.Dec.{ltb}
use borrow.Author.Tests.{eqb-true, eqb-false, eq-eqb, lt-ltb}
use Rattle.instruction.specs.Instruction.{class}
use Rattle.effects.specs.Shape.{Tables, Sections, Cell, cell_at}
use Rattle.effects.specs.Effects.{all_reads, sure_writes, range_has, any_of}
use Rattle.flow.specs.Branch.{falls, branches, target}
use Rattle.flow.specs.Block.{block_count}
use Rattle.flow.specs.laws.Marks.{Marked}
use Rattle.flow.specs.laws.Flags.{Flags}
use Rattle.pc_map.specs.Boundary.{is_kept}
use Rattle.liveness.specs.Live.{Row, live_before, edges, is_last, joined, live_after, round_from}
use Rattle.liveness.specs.laws.Rows.{bit, before_bit, before_long, Wide, after_long, walk_wide}
use Rattle.liveness.specs.Dead.{Swept, is_dead, sweep_from}
use Rattle.liveness.specs.laws.Sweep.{before_at, keep_at_lem}
use Rattle.run.specs.laws.Step.{Succ, next, branch}
use Rattle.run.specs.laws.Frame.{In, here, in_left, in_right}
use Rattle.run.specs.laws.Solved.{whole_at, row_at}
use Rattle.run.specs.laws.RowBits.{joined_bit}

-- a slot is live before an instruction, by whether it is after it
unfoldable pub flow : Bool → Bool → Bool → Bool → Bool
flow kept reads after writes = cond kept (reads || (after && not writes)) after

-- dropping a store whose slots are not live makes no slot live
flow_less : (d : Bool) (k r a w a' : Bool) → (a ≡ true → a' ≡ true) → (d ≡ true → w ≡ true → a ≡ false) → flow (k && not d) r a w ≡ true → flow k r a' w ≡ true
unfolding flow
flow_less d false r a w a' f g e = f e
flow_less false true true a w a' f g e = refl
flow_less false true false true w a' f g e = rw (f refl) e
flow_less false true false false w a' f g e = absurd (false≢true e)
flow_less true true true a w a' f g e = refl
flow_less true true false true true a' f g e = absurd (true≢false (g refl refl))
flow_less true true false true false a' f g e = rw (f refl) refl
flow_less true true false false w a' f g e = absurd (false≢true e)

pub flow_gone : (k r a w : Bool) → k ≡ false → a ≡ true → flow k r a w ≡ true
unfolding flow
flow_gone true r a w e f = absurd (true≢false e)
flow_gone false r a w e f = f

pub flow_kept : (k r a w : Bool) → a ≡ true → w ≡ false → flow k r a w ≡ true
unfolding flow
flow_kept true true a w f g = refl
flow_kept true false true w f g = rw g refl
flow_kept true false false w f g = absurd (false≢true f)
flow_kept false r a w f g = f

pub flow_reads : (k r a w : Bool) → k ≡ true → r ≡ true → flow k r a w ≡ true
unfolding flow
flow_reads true true a w e f = refl
flow_reads true false a w e f = absurd (false≢true f)
flow_reads false r a w e f = absurd (false≢true e)

-- behind a block's last place a block starts
pub last_leader : (n : ℕ) (leaders : List ℕ) (p : ℕ) → suc p < n → is_last n leaders p ≡ true → Marked leaders (suc p)
last_leader n leaders p h e = go (eqb (suc p) n) refl e
  where
    go : (t : Bool) → eqb (suc p) n ≡ t → (t || eqb (get_or leaders (suc p) 0) 1) ≡ true → Marked leaders (suc p)
    go true q r = let d : suc p ≡ n = eqb-true (suc p) n q in absurd (omega arith)
    go false q r = eqb-true (get_or leaders (suc p) 0) 1 r

module _ (S : Sections) (leaders keep : List ℕ) (cells : List Cell) (rows : List Row) where
  abbrev n : ℕ
  n = length cells

  abbrev cell : ℕ → Cell
  cell p = cell_at cells p

  abbrev T : Tables
  T = S.tables

  abbrev sweep : ℕ → Swept
  sweep p = sweep_from S n leaders keep rows p (drop p cells)

  abbrev pub before : ℕ → Row
  before p = (sweep p).before

  abbrev pub after : ℕ → Row
  after p = live_after S n leaders keep rows p (cell p) (before (suc p))

  abbrev pub dead : ℕ → Bool
  dead p = is_dead S (cell p) (after p)

  -- the same with no store dropped
  abbrev pub whole : ℕ → Row
  whole p = (round_from S n leaders keep p (drop p cells) rows).before

  abbrev pub whole_after : ℕ → Row
  whole_after p = live_after S n leaders keep rows p (cell p) (whole (suc p))

  abbrev pub reads : ℕ → ℕ → Bool
  reads p s = any_of (range_has s) (all_reads T (cell p))

  abbrev pub written : ℕ → ℕ → Bool
  written p s = any_of (range_has s) (sure_writes T (cell p))

  -- kept after dead stores are gone
  abbrev pub stays : ℕ → Bool
  stays p = is_kept keep p && not (dead p)

  -- the places that stay
  kept_from : (p : ℕ) → p ≤ n → drop p (sweep 0).keep ≡ (sweep p).keep
  kept_from zero h = refl
  kept_from (suc p) h =
      ap (λ (q : ℕ). drop q (sweep 0).keep) (sym (add-one p))
      ∙ sym (drop-drop 1 p (sweep 0).keep)
      ∙ ap (drop 1) (kept_from p (omega arith) ∙ keep_at_lem S leaders keep cells rows p h)

  pub stays_at : (p : ℕ) → p < n → get_or (sweep 0).keep p 0 ≡ cond (stays p) 1 0
  stays_at p h =
      ap (λ (q : ℕ). get_or (sweep 0).keep q 0) (sym (add-zero p))
      ∙ sym (get_or-drop p (sweep 0).keep 0 0)
      ∙ ap (λ (l : List ℕ). get_or l 0 0) (kept_from p (omega arith) ∙ keep_at_lem S leaders keep cells rows p h)

  -- What is asked of blocks, rows and code.
  pub record Analysed : Type 0 where
    pub long : length leaders ≡ n
    pub flags : Flags leaders
    pub one : Marked leaders 0
    pub count : length rows ≡ block_count leaders
    pub rest : (round_from S n leaders keep 0 cells rows).rows ≡ rows
    pub wide : Wide S n leaders keep rows
    -- a block ends where control may leave it, and starts where control may come
    pub inner : (p : ℕ) → p < n → is_last n leaders p ≡ false → branches (class (cell p).instruction) ≡ false
    pub targets : (p : ℕ) → p < n → branches (class (cell p).instruction) ≡ true → Marked leaders (target p (cell p).instruction) × (target p (cell p).instruction < n)
    -- a dead store gives no live slot a word
    pub unread : (p s : ℕ) → p < n → dead p ≡ true → written p s ≡ true → bit (after p) s ≡ false

  module _ (A : Analysed) where
    whole_long : (p : ℕ) → length (whole p) ≡ S.locals
    whole_long p = walk_wide S n leaders keep p (drop p cells) rows A.wide

    last_place : (p : ℕ) → suc p ≡ n → is_last n leaders p ≡ true
    last_place p e = rw (eq-eqb (suc p) n e) refl

    not_last : (p : ℕ) → p < n → is_last n leaders p ≡ false → suc p < n
    not_last p h e = go (eqb (suc p) n) refl e
      where
        go : (t : Bool) → eqb (suc p) n ≡ t → (t || eqb (get_or leaders (suc p) 0) 1) ≡ false → suc p < n
        go true q r = absurd (true≢false r)
        go false q r = let d : suc p ≡ n → ⊥ = eqb-false (suc p) n q in omega arith

    -- every row of the sweep has a bit for each slot
    wide_here : (p : ℕ) → p < n → (is_last n leaders p ≡ false → length (before (suc p)) ≡ S.locals) → length (before p) ≡ S.locals
    wide_here p h f = rw (before_at S leaders keep cells rows p h) (go (stays p) (after_long S n leaders keep rows A.wide p (cell p) (before (suc p)) f))
      where
        go : (t : Bool) → length (after p) ≡ S.locals → length (cond t (live_before T (cell p) (after p)) (after p)) ≡ S.locals
        go true l = before_long T (cell p) (after p) ∙ l
        go false l = l

    wide_from : (d p : ℕ) → p + suc d ≡ n → length (before p) ≡ S.locals
    wide_from zero p e = wide_here p (omega arith) (λ q. absurd (true≢false (sym (last_place p (omega arith)) ∙ q)))
    wide_from (suc d) p e = wide_here p (omega arith) (λ q. wide_from d (suc p) (omega arith))

    before_wide : (p : ℕ) → p < n → length (before p) ≡ S.locals
    before_wide p h = wide_from (n - suc p) p (omega arith)

    after_wide : (p : ℕ) → p < n → length (after p) ≡ S.locals
    after_wide p h = after_long S n leaders keep rows A.wide p (cell p) (before (suc p)) (λ q. before_wide (suc p) (not_last p h q))

    whole_after_long : (p : ℕ) → length (whole_after p) ≡ S.locals
    whole_after_long p = after_long S n leaders keep rows A.wide p (cell p) (whole (suc p)) (λ q. whole_long (suc p))

    -- ---- bit by bit

    flow_bit : (t : Bool) (x : Cell) (row : Row) (s : ℕ) → s < length row
        → bit (cond t (live_before T x row) row) s ≡ flow t (any_of (range_has s) (all_reads T x)) (bit row s) (any_of (range_has s) (sure_writes T x))
    unfolding flow
    flow_bit true x row s h = before_bit T x row s h
    flow_bit false x row s h = refl

    pub before_flow : (p s : ℕ) → p < n → s < S.locals → bit (before p) s ≡ flow (stays p) (reads p s) (bit (after p) s) (written p s)
    before_flow p s h l = ap (λ (r : Row). bit r s) (before_at S leaders keep cells rows p h) ∙ flow_bit (stays p) (cell p) (after p) s (rw (after_wide p h) l)

    pub whole_flow : (p s : ℕ) → p < n → s < S.locals → bit (whole p) s ≡ flow (is_kept keep p) (reads p s) (bit (whole_after p) s) (written p s)
    whole_flow p s h l =
        ap (λ (r : Row). bit r s) (whole_at S leaders keep cells A.long A.flags A.one rows A.count A.rest p h)
        ∙ flow_bit (is_kept keep p) (cell p) (whole_after p) s (rw (whole_after_long p) l)

    -- after a place: at a block's end what is live at its successors, else what is live before the next
    pub after_last : (p : ℕ) → is_last n leaders p ≡ true → (r : Row) → live_after S n leaders keep rows p (cell p) r ≡ joined S n leaders keep rows (edges n p (cell p))
    unfolding live_after
    after_last p e r = rw e

    pub after_inner : (p : ℕ) → is_last n leaders p ≡ false → (r : Row) → live_after S n leaders keep rows p (cell p) r ≡ r
    unfolding live_after
    after_inner p e r = rw e

    -- nothing is live at the end of the code
    pub at_end : (p : ℕ) → n ≤ p → before p ≡ []
    unfolding sweep_from
    at_end p h = ap (λ (l : List Cell). (sweep_from S n leaders keep rows p l).before) (drop_of_length-le cells h)

    -- dropping stores makes no slot live
    less : (d p s : ℕ) → p + d ≡ n → s < S.locals → bit (before p) s ≡ true → bit (whole p) s ≡ true
    less zero p s e l b =
        let z : before p ≡ [] = at_end p (omega arith) in
        let f : false ≡ true = rw z at b in
        absurd (false≢true f)
    less (suc d) p s e l b =
        let h : p < n = omega arith in
        whole_flow p s h l
        ∙ flow_less (dead p) (is_kept keep p) (reads p s) (bit (after p) s) (written p s) (bit (whole_after p) s) (up (is_last n leaders p) refl (less d (suc p) s (omega arith) l))
        (λ u v. A.unread p s h u v) (sym (before_flow p s h l) ∙ b)
      where
        up : (t : Bool) → is_last n leaders p ≡ t → (bit (before (suc p)) s ≡ true → bit (whole (suc p)) s ≡ true) → bit (after p) s ≡ true → bit (whole_after p) s ≡ true
        up true t ih a = ap (λ (r : Row). bit r s) (after_last p t (whole (suc p)) ∙ sym (after_last p t (before (suc p)))) ∙ a
        up false t ih a = ap (λ (r : Row). bit r s) (after_inner p t (whole (suc p))) ∙ ih (sym (ap (λ (r : Row). bit r s) (after_inner p t (before (suc p)))) ∙ a)

    -- the edges of a block's last place are the places that a step may go to
    edge_next : (p : ℕ) → falls (class (cell p).instruction) ≡ true → suc p < n → In (suc p) (edges n p (cell p))
    unfolding edges
    edge_next p f h = in_left (cond (branches (class (cell p).instruction)) (target p (cell p).instruction ∷ []) []) (only (falls (class (cell p).instruction) && ltb (suc p) n) (rw (f, lt-ltb (suc p) n h) refl))
      where
        only : (t : Bool) → t ≡ true → In (suc p) (cond t (suc p ∷ []) [])
        only true e = here
        only false e = absurd (false≢true e)

    edge_branch : (p : ℕ) → branches (class (cell p).instruction) ≡ true → In (target p (cell p).instruction) (edges n p (cell p))
    unfolding edges
    edge_branch p f = in_right (cond (falls (class (cell p).instruction) && ltb (suc p) n) (suc p ∷ []) []) (only (branches (class (cell p).instruction)) f)
      where
        only : (t : Bool) → t ≡ true → In (target p (cell p).instruction) (cond t (target p (cell p).instruction ∷ []) [])
        only true e = here
        only false e = absurd (false≢true e)

    pub goto_le : (p q : ℕ) → p < n → Succ (class (cell p).instruction) p (cell p).instruction q → q ≤ n
    goto_le p q h (next f) = h
    goto_le p q h (branch f) = let l = (A.targets p h f).1 in omega arith

    -- a slot that is live at a block's start is live after each place from which control comes there
    joins : (p q s : ℕ) → s < S.locals → q < n → is_last n leaders p ≡ true → Marked leaders q → In q (edges n p (cell p)) → bit (before q) s ≡ true → bit (after p) s ≡ true
    joins p q s l k e m i b =
        ap (λ (r : Row). bit r s) (after_last p e (before (suc p)))
        ∙ joined_bit S n leaders keep rows s i
        (ap (λ (r : Row). bit r s) (row_at S leaders keep cells A.long A.flags A.one rows A.count A.rest q k m) ∙ less (n - q) q s (omega arith) l b)

    -- what is live at a successor is live after the place
    pub out : (p q s : ℕ) → s < S.locals → p < n → Succ (class (cell p).instruction) p (cell p).instruction q → bit (before q) s ≡ true → bit (after p) s ≡ true
    out p q s l h g b = elim (dec_le n q) [
      | yes k ↦ (let z : before q ≡ [] = at_end q k in let f : false ≡ true = rw z at b in absurd (false≢true f))
      | no k ↦ inside q g b (omega arith) (is_last n leaders p) refl
    ]
      where
        inside : (q : ℕ) → Succ (class (cell p).instruction) p (cell p).instruction q → bit (before q) s ≡ true → q < n → (t : Bool) → is_last n leaders p ≡ t → bit (after p) s ≡ true
        inside q (next f) b k true e = joins p (suc p) s l k e (last_leader n leaders p k e) (edge_next p f k) b
        inside q (next f) b k false e = ap (λ (r : Row). bit r s) (after_inner p e (before (suc p))) ∙ b
        inside q (branch f) b k true e = joins p _ s l k e (A.targets p h f).0 (edge_branch p f) b
        inside q (branch f) b k false e = absurd (false≢true (sym (A.inner p h e) ∙ f))
