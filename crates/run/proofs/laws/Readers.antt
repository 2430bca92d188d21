-- Document 02, L7: live slots are those with a reader. What the rounds find lies inside the readers, and readers are found.
-- Assumes nothing.
use Rattle.std.proofs.Math.Path.{◌≡◌, refl}
use Rattle.std.proofs.Common.{sym, ap, ◌∙◌, true≢false, drop_of_length-le, drop-cons, get_or-set_same, get_or-set_other}
use Rattle.std.specs.Prelude.{Some, ◌⊎◌, Bool, ◌&&◌, ◌||◌, eqb, leb, get_or, set, drop, replicate}
use Rattle.std.proofs.Math.Logic.{inl, inr}
use Rattle.std.proofs.Math.Bool.{true, false, cond, not}
use Rattle.std.proofs.lemmas.Bool.{false≢true}
use mathlib.Core.List.{List, [], ◌∷◌, ◌++◌}
use Prim.Native.Nat.{ℕ, zero, suc, ◌+◌, ◌≤◌, ◌<◌}
use native.Mathlib.Omega.{arith}
use Rattle.std.proofs.Math.Dec.{ltb}
use Rattle.std.proofs.Math.ListN.{length, get_or-eq_default}
use Rattle.std.proofs.lemmas.List.{get_or-replicate, length-replicate}
use borrow.Author.Tests.{eqb-true, eq-eqb, ltb-true, ltb-false, le-leb, lt-ltb, leb-true, not-true}
use Rattle.std.proofs.Math.Decide.{ℕ_discrete, dec_le}
use Rattle.words.specs.Lists.{is_in, every}
use Rattle.words.specs.laws.Truth.{left_true, right_true}
use Rattle.instruction.specs.Instruction.{class}
use Rattle.effects.specs.Shape.{Tables, Sections, Cell, cell_at, no_cell}
use Rattle.effects.specs.declared.Range.{Range}
use Rattle.effects.specs.Effects.{all_reads, sure_writes, range_has, range_within, all_of, any_of}
use Rattle.effects.specs.laws.Sound.{within_slot}
use Rattle.values.specs.Number.{is_scalar}
use Rattle.liveness.specs.Dead.{unread}
use Rattle.flow.specs.Branch.{falls, branches, target}
use Rattle.flow.specs.Block.{block_of, block_count}
use Rattle.flow.specs.Loop.{reached_places}
use Rattle.flow.specs.laws.Marks.{Marked}
use Rattle.flow.specs.laws.Blocks.{block_below}
use Rattle.pc_map.specs.Boundary.{is_kept}
use Rattle.liveness.specs.Live.{Row, live_before, edges, is_last, no_row, joined, live_after, round_from, solve_in, same_rows}
use Rattle.liveness.specs.laws.Rows.{bit, before_bit, union_bit, no_bit, Wide, after_long, round_wide}
use Rattle.liveness.specs.laws.Rounding.{rows_long}
use Rattle.answer.specs.Pass.{useful_places}
use Rattle.run.specs.Program.{Function}
use Rattle.run.specs.Reader.{reads_slot, writes_slot, Reader, read, inner, edge}
use Rattle.run.specs.laws.Frame.{In, here, there}
use Rattle.run.proofs.laws.Optimized.{Removing, useful_long}
use Rattle.run.specs.laws.Solved.{block_later, row_at}
use Rattle.run.specs.laws.RowBits.{or_left, or_right, joined_bit}
use Rattle.run.specs.laws.Alive.{last_leader, flow, flow_reads, before as liveAt, after as liveOut, dead, stays, reads, written, whole, Analysed, before_flow, whole_flow, after_last, after_inner, at_end}

-- a truth value of two
pub either : (a b : Bool) → (a || b) ≡ true → (a ≡ true) ⊎ (b ≡ true)
either true b e = inl refl
either false b e = inr e

module _ (G : Function) (leaders : List ℕ) (N : Removing G leaders) (kept : List ℕ) where
  abbrev S : Sections
  S = G.sections

  abbrev T : Tables
  T = G.sections.tables

  abbrev code : List Cell
  code = G.cells

  abbrev n : ℕ
  n = length code

  abbrev cell : ℕ → Cell
  cell p = cell_at code p

  abbrev marks : List ℕ
  marks = reached_places code

  abbrev useful : List ℕ
  useful = useful_places marks code

  abbrev pub ReaderOf : ℕ → Bool → ℕ → Type 0
  ReaderOf t left q = Reader T leaders useful kept code t left q

  abbrev writes : ℕ → ℕ → Bool
  writes q t = writes_slot T leaders useful kept code q t

  -- ---- where edges go

  in_two : (a b : Bool) (x y r : ℕ) → is_in r (cond a (x ∷ []) [] ++ cond b (y ∷ []) []) ≡ true → ((a ≡ true) × (r ≡ x)) ⊎ ((b ≡ true) × (r ≡ y))
  in_two true b x y r e = go (eqb r x) refl e
    where
      go : (t : Bool) → eqb r x ≡ t → cond t true (is_in r (cond b (y ∷ []) [])) ≡ true → ((true ≡ true) × (r ≡ x)) ⊎ ((b ≡ true) × (r ≡ y))
      go true q e = inl (refl, eqb-true r x q)
      go false q e = one b e
        where
          one : (b : Bool) → is_in r (cond b (y ∷ []) []) ≡ true → ((true ≡ true) × (r ≡ x)) ⊎ ((b ≡ true) × (r ≡ y))
          one true e = inr (refl, last (eqb r y) refl e)
            where
              last : (t : Bool) → eqb r y ≡ t → cond t true false ≡ true → r ≡ y
              last true q e = eqb-true r y q
              last false q e = absurd (false≢true e)
          one false e = absurd (false≢true e)
  in_two false true x y r e = inr (refl, last (eqb r y) refl e)
    where
      last : (t : Bool) → eqb r y ≡ t → cond t true false ≡ true → r ≡ y
      last true q e = eqb-true r y q
      last false q e = absurd (false≢true e)
  in_two false false x y r e = absurd (false≢true e)

  pub record Start (r : ℕ) : Type 0 where
    pub inside : r < n
    pub leads : Marked leaders r

  -- edges lead to the starts of blocks
  pub edge_start : (p r : ℕ) → p < n → is_last n leaders p ≡ true → is_in r (edges n p (cell p)) ≡ true → Start r
  unfolding edges
  edge_start p r h e i =
      elim (in_two (falls (class (cell p).instruction) && ltb (suc p) n) (branches (class (cell p).instruction)) (suc p) (target p (cell p).instruction) r i) [
        | inl (a, q) ↦ rw q (
            let l : suc p < n = ltb-true (suc p) n (right_true (falls (class (cell p).instruction)) (ltb (suc p) n) a) in
            record { inside = l; leads = last_leader n leaders p l e })
        | inr (b, q) ↦ rw q (let t = N.targets p h b in record { inside = t.1; leads = t.0 })
      ]

  -- ---- what the rounds find lies inside the readers

  -- the rows have no other slots than those with a reader
  abbrev pub Inside : List Row → Type 0
  Inside rows = (q t : ℕ) → Start q → t < S.locals → bit (get_or rows (block_of leaders q) (no_row S n leaders useful)) t ≡ true → ReaderOf t true q

  pub joined_in : (rows : List Row) (qs : List ℕ) (t : ℕ) → bit (joined S n leaders useful rows qs) t ≡ true
      → (r : ℕ) × (is_in r qs ≡ true) × (bit (get_or rows (block_of leaders r) (no_row S n leaders useful)) t ≡ true)
  unfolding joined
  joined_in rows [] t e = absurd (false≢true (sym (no_bit S n leaders useful t) ∙ e))
  joined_in rows (q ∷ qs) t e = elim (either (bit (get_or rows (block_of leaders q) (no_row S n leaders useful)) t) (bit (joined S n leaders useful rows qs) t) (sym (union_bit (get_or rows (block_of leaders q) (no_row S n leaders useful)) (joined S n leaders useful rows qs) t) ∙ e)) [
    | inl b ↦ (q, rw (eq-eqb q q refl) refl, b)
    | inr b ↦ later (joined_in rows qs t b)
  ]
    where
      later : (r : ℕ) × (is_in r qs ≡ true) × (bit (get_or rows (block_of leaders r) (no_row S n leaders useful)) t ≡ true)
          → (r : ℕ) × (is_in r (q ∷ qs) ≡ true) × (bit (get_or rows (block_of leaders r) (no_row S n leaders useful)) t ≡ true)
      later (r, i, b) = (r, go (eqb r q), b)
        where
          go : (s : Bool) → cond s true (is_in r qs) ≡ true
          go true = refl
          go false = i

  -- what is live after a place that does not write the slot has a reader from there on
  after_reader : (rows : List Row) → Inside rows → (p t : ℕ) (left : Bool) (row : Row) → p < n → t < S.locals → writes p t ≡ false
      → (is_last n leaders p ≡ false → bit row t ≡ true → ReaderOf t left (suc p)) → bit (live_after S n leaders useful rows p (cell p) row) t ≡ true → ReaderOf t left p
  unfolding live_after
  after_reader rows I p t left row h l w f b = go (is_last n leaders p) refl b
    where
      go : (s : Bool) → is_last n leaders p ≡ s → bit (cond s (joined S n leaders useful rows (edges n p (cell p))) row) t ≡ true → ReaderOf t left p
      go true e b = let j = joined_in rows (edges n p (cell p)) t b in edge w e j.1 (I j.0 t (edge_start p j.0 h e j.1) l j.2)
      go false e b = inner w e (f e b)

  -- two leaders of one block are one
  same_start : (p q : ℕ) → p < n → Marked leaders p → Start q → block_of leaders q ≡ block_of leaders p → q ≡ p
  same_start p q h m b e = go (ltb p q) refl (ltb q p) refl
    where
      go : (s : Bool) → ltb p q ≡ s → (t : Bool) → ltb q p ≡ t → q ≡ p
      go true x t y = let l = block_later leaders N.one p q (ltb-true p q x) (rw N.long b.inside) b.leads in absurd (omega arith)
      go false x true y = let l = block_later leaders N.one q p (ltb-true q p y) (rw N.long h) m in absurd (omega arith)
      go false x false y = let u = ltb-false p q x in let v = ltb-false q p y in omega arith

  -- a place more of a round, from the last to the first
  module _ (later : List Row) (I : Inside later) (wide : Wide S n leaders useful later) (count : length later ≡ block_count leaders) (row : Row) (long : length row ≡ S.locals)
      (p : ℕ) (h : p < n) (f : (t : ℕ) → t < S.locals → bit row t ≡ true → ReaderOf t true (suc p)) where
    abbrev after : Row
    after = live_after S n leaders useful later p (cell p) row

    abbrev before : Row
    before = cond (is_kept useful p) (live_before T (cell p) after) after

    after_wide : length after ≡ S.locals
    after_wide = after_long S n leaders useful later wide p (cell p) row (λ e. long)

    place_reader : (t : ℕ) → t < S.locals → bit before t ≡ true → ReaderOf t true p
    place_reader t l b = go (is_kept useful p) refl b
      where
        passed : writes p t ≡ false → bit after t ≡ true → ReaderOf t true p
        passed w a = after_reader later I p t true row h l w (λ e c. f t l c) a

        go : (k : Bool) → is_kept useful p ≡ k → bit (cond k (live_before T (cell p) after) after) t ≡ true → ReaderOf t true p
        go true k b = elim (either (any_of (range_has t) (all_reads T (cell p))) (bit after t && not (any_of (range_has t) (sure_writes T (cell p)))) (sym (before_bit T (cell p) after t (rw after_wide l)) ∙ b)) [
          | inl r ↦ (let reads : reads_slot T leaders useful kept code p t ≡ true = rw k r in read reads (inl refl))
          | inr c ↦ passed (rw k (not-true (any_of (range_has t) (sure_writes T (cell p))) (right_true (bit after t) _ c))) (left_true (bit after t) _ c)
        ]
        go false k b = passed (rw k refl) b

    abbrev rows' : List Row
    rows' = cond (eqb (get_or leaders p 0) 1) (set later (block_of leaders p) before) later

    place_inside : Inside rows'
    place_inside = go (eqb (get_or leaders p 0) 1) refl
      where
        go : (s : Bool) → eqb (get_or leaders p 0) 1 ≡ s → Inside (cond s (set later (block_of leaders p) before) later)
        go false e = I
        go true e = λ q t a l b. elim (ℕ_discrete (block_of leaders q) (block_of leaders p)) [
          | yes d ↦ (
              let leads : Marked leaders p = eqb-true (get_or leaders p 0) 1 e in
              let same : q ≡ p = same_start p q h leads a d in
              let below : block_of leaders p < length later = rw count (block_below leaders N.flags N.one p (rw N.long h)) in
              let row= : get_or (set later (block_of leaders p) before) (block_of leaders p) (no_row S n leaders useful) ≡ before = get_or-set_same later (block_of leaders p) before (no_row S n leaders useful) below in
              rw same (place_reader t l (rw (d, row=) at b)))
          | no d ↦ I q t a l (rw (get_or-set_other later (block_of leaders p) (block_of leaders q) before (no_row S n leaders useful) d) at b)
        ]

  -- one round
  round_inside : (rows : List Row) → Wide S n leaders useful rows → length rows ≡ block_count leaders → Inside rows → (d p : ℕ) → p + d ≡ n
      → Inside (round_from S n leaders useful p (drop p code) rows).rows
      × ((t : ℕ) → t < S.locals → bit (round_from S n leaders useful p (drop p code) rows).before t ≡ true → ReaderOf t true p)
  unfolding round_from
  round_inside rows wide count I zero p e =
      let past : n ≤ p = omega arith in
      rw (drop_of_length-le code past) (I, λ t l b. absurd (false≢true (sym (no_bit S n leaders useful t) ∙ b)))
  round_inside rows wide count I (suc d) p e =
      let h : p < n = omega arith in
      let r = round_from S n leaders useful (suc p) (drop (suc p) code) rows in
      let w = round_wide S n leaders useful (suc p) (drop (suc p) code) rows wide in
      let c : length r.rows ≡ block_count leaders = rows_long S n leaders useful (suc p) (drop (suc p) code) rows ∙ count in
      let ih = round_inside rows wide count I d (suc p) (omega arith) in
      rw (drop-cons code p no_cell h)
      (place_inside r.rows ih.0 w.0 c r.before w.1 p h ih.1, λ t l b. place_reader r.rows ih.0 w.0 c r.before w.1 p h ih.1 t l b)

  -- all rounds
  pub solved_inside : (k : ℕ) (rows found : List Row) → Wide S n leaders useful rows → length rows ≡ block_count leaders → Inside rows → solve_in S n leaders useful k code rows ≡ Some found → Inside found
  unfolding solve_in
  solved_inside zero rows found w c I e = let z : ◌≡◌ {A = ℕ} 0 1 = cc in absurd (omega arith)
  solved_inside (suc k) rows found w c I e =
      let next = (round_from S n leaders useful 0 code rows).rows in
      let inside : Inside next = (round_inside rows w c I n 0 (omega arith)).0 in
      go (same_rows rows next) e inside (solved_inside k next found (round_wide S n leaders useful 0 code rows w).0 (rows_long S n leaders useful 0 code rows ∙ c) inside)
    where
      go : (t : Bool) → cond t (Some (round_from S n leaders useful 0 code rows).rows) (solve_in S n leaders useful k code (round_from S n leaders useful 0 code rows).rows) ≡ Some found
          → Inside (round_from S n leaders useful 0 code rows).rows → (solve_in S n leaders useful k code (round_from S n leaders useful 0 code rows).rows ≡ Some found → Inside found) → Inside found
      go true e i ih = let f : (round_from S n leaders useful 0 code rows).rows ≡ found = cc in rw (← f) i
      go false e i ih = ih e

  -- nothing is live at first
  pub none_inside : (k : ℕ) → Inside (replicate k (no_row S n leaders useful))
  none_inside k q t a l b = absurd (false≢true (sym (no_bit S n leaders useful t) ∙ ap (λ (r : Row). bit r t) (sym (go (ltb (block_of leaders q) k) refl)) ∙ b))
    where
      go : (s : Bool) → ltb (block_of leaders q) k ≡ s → get_or (replicate k (no_row S n leaders useful)) (block_of leaders q) (no_row S n leaders useful) ≡ no_row S n leaders useful
      go true e = get_or-replicate k (block_of leaders q) (no_row S n leaders useful) (no_row S n leaders useful) (ltb-true (block_of leaders q) k e)
      go false e =
          let past : length (replicate k (no_row S n leaders useful)) ≤ block_of leaders q = rw (length-replicate k (no_row S n leaders useful)) (ltb-false (block_of leaders q) k e) in
          get_or-eq_default (replicate k (no_row S n leaders useful)) (no_row S n leaders useful) past

  -- ---- readers are live, and what is live in the sweep has readers

  -- a path stands inside the code
  useful_inside : (q : ℕ) → is_kept useful q ≡ true → q < n
  useful_inside q e = elim (dec_le n q) [
    | yes h ↦ (let past : length useful ≤ q = rw (useful_long marks code) h in absurd (false≢true (rw (get_or-eq_default useful 0 past) at e)))
    | no h ↦ omega arith
  ]

  last_inside : (q : ℕ) → is_last n leaders q ≡ true → q < n
  last_inside q e = elim (either (eqb (suc q) n) (eqb (get_or leaders (suc q) 0) 1) e) [
    | inl s ↦ (let same : suc q ≡ n = eqb-true (suc q) n s in omega arith)
    | inr s ↦ elim (dec_le n (suc q)) [
      | yes h ↦ (let past : length leaders ≤ suc q = rw N.long h in absurd (false≢true (rw (get_or-eq_default leaders 0 past) at s)))
      | no h ↦ omega arith
    ]
  ]

  reader_inside : {t q : ℕ} {left : Bool} → ReaderOf t left q → q < n
  reader_inside {t} {q} (read r e) = useful_inside q (left_true (is_kept useful q) _ r)
  reader_inside (inner w e r) = let h = reader_inside r in omega arith
  reader_inside {t} {q} (edge w e i r) = last_inside q e

  -- a slot that is live after a place that does not write it is live before it
  pass_flow : (k r a w : Bool) → (k && w) ≡ false → a ≡ true → flow k r a w ≡ true
  unfolding flow
  pass_flow true true a w e f = refl
  pass_flow true false true w e f = rw e refl
  pass_flow true false false w e f = absurd (false≢true f)
  pass_flow false r a w e f = f

  -- what does not write does not write if it stays
  stays_less : (u d w : Bool) → (u && w) ≡ false → ((u && d) && w) ≡ false
  stays_less true true w e = e
  stays_less true false w e = refl
  stays_less false d w e = refl

  module _ (rows : List Row) (A : Analysed S leaders useful code rows) where
    in_list : (r : ℕ) (l : List ℕ) → is_in r l ≡ true → In r l
    in_list r [] e = absurd (false≢true e)
    in_list r (x ∷ l) e = go (eqb r x) refl e (in_list r l)
      where
        go : (t : Bool) → eqb r x ≡ t → cond t true (is_in r l) ≡ true → (is_in r l ≡ true → In r l) → In r (x ∷ l)
        go true q e ih = let same : r ≡ x = eqb-true r x q in rw same here
        go false q e ih = there (ih e)

    -- what has a reader is live in the rows
    pub row_live : (p r t : ℕ) → p < n → is_last n leaders p ≡ true → is_in r (edges n p (cell p)) ≡ true → bit (whole S leaders useful code rows r) t ≡ true
        → (row : Row) → bit (live_after S n leaders useful rows p (cell p) row) t ≡ true
    row_live p r t h e i b row =
        let s = edge_start p r h e i in
        ap (λ (x : Row). bit x t) (after_last S leaders useful code rows A p e row)
        ∙ joined_bit S n leaders useful rows t (in_list r (edges n p (cell p)) i)
        (ap (λ (x : Row). bit x t) (row_at S leaders useful code A.long A.flags A.one rows A.count A.rest r s.inside s.leads) ∙ b)

    pub reader_whole : {t q : ℕ} {left : Bool} → t < S.locals → ReaderOf t left q → bit (whole S leaders useful code rows q) t ≡ true
    reader_whole {t} {q} l (read r e) =
        whole_flow S leaders useful code rows A q t (reader_inside (read {left = true} r (inl refl))) l
        ∙ flow_reads (is_kept useful q) _ _ _ (left_true (is_kept useful q) _ r) (right_true (is_kept useful q) _ r)
    reader_whole {t} {q} l (inner w e r) =
        let h = reader_inside r in
        whole_flow S leaders useful code rows A q t (omega arith) l
        ∙ pass_flow (is_kept useful q) _ _ _ w (ap (λ (x : Row). bit x t) (after_inner S leaders useful code rows A q e _) ∙ reader_whole l r)
    reader_whole {t} {q} l (edge {r = r} w e i g) =
        let h = last_inside q e in
        whole_flow S leaders useful code rows A q t h l
        ∙ pass_flow (is_kept useful q) _ _ _ w (row_live q r t h e i (reader_whole l g) _)

    module _ (kept_stays : (q : ℕ) → q < n → is_kept kept q ≡ stays S leaders useful code rows q) where
      -- what has a reader of the store's block is live in the sweep
      pub reader_before : {t q : ℕ} {left : Bool} → left ≡ false → t < S.locals → ReaderOf t left q → bit (liveAt S leaders useful code rows q) t ≡ true
      reader_before {t} {q} f l (read r (inl e)) = absurd (false≢true (sym f ∙ e))
      reader_before {t} {q} f l (read r (inr k)) =
          let h = useful_inside q (left_true (is_kept useful q) _ r) in
          before_flow S leaders useful code rows A q t h l ∙ flow_reads (stays S leaders useful code rows q) _ _ _ (sym (kept_stays q h) ∙ k) (right_true (is_kept useful q) _ r)
      reader_before {t} {q} f l (inner w e r) =
          let h = reader_inside r in
          before_flow S leaders useful code rows A q t (omega arith) l
          ∙ pass_flow (stays S leaders useful code rows q) _ _ _ (stays_less (is_kept useful q) (not (dead S leaders useful code rows q)) _ w) (ap (λ (x : Row). bit x t) (after_inner S leaders useful code rows A q e _) ∙ reader_before f l r)
      reader_before {t} {q} f l (edge {r = r} w e i g) =
          let h = last_inside q e in
          before_flow S leaders useful code rows A q t h l
          ∙ pass_flow (stays S leaders useful code rows q) _ _ _ (stays_less (is_kept useful q) (not (dead S leaders useful code rows q)) _ w) (row_live q r t h e i (reader_whole l g) _)

      module _ (I : Inside rows) where
        -- what is live in the sweep has a reader
        pub before_reader : (d p t : ℕ) → p + d ≡ n → t < S.locals → bit (liveAt S leaders useful code rows p) t ≡ true → ReaderOf t false p
        unfolding flow
        before_reader zero p t e l b = let nothing : liveAt S leaders useful code rows p ≡ [] = at_end S leaders useful code rows A p (omega arith) in absurd (false≢true (rw nothing at b))
        before_reader (suc d) p t e l b =
            let h : p < n = omega arith in
            place h (λ w a. after_reader rows I p t false (liveAt S leaders useful code rows (suc p)) h l w (λ q c. before_reader d (suc p) t (omega arith) l c) a)
            (is_kept useful p) refl (dead S leaders useful code rows p) refl (sym (before_flow S leaders useful code rows A p t h l) ∙ b)
          where
            place : p < n → (writes p t ≡ false → bit (liveOut S leaders useful code rows p) t ≡ true → ReaderOf t false p) → (u : Bool) → is_kept useful p ≡ u → (x : Bool) → dead S leaders useful code rows p ≡ x
                → flow (u && not x) (reads S leaders useful code rows p t) (bit (liveOut S leaders useful code rows p) t) (written S leaders useful code rows p t) ≡ true → ReaderOf t false p
            place h passed true u false x b = elim (either (reads S leaders useful code rows p t) (bit (liveOut S leaders useful code rows p) t && not (written S leaders useful code rows p t)) b) [
              | inl r ↦ (let here : reads_slot T leaders useful kept code p t ≡ true = rw u r in read here (inr (kept_stays p h ∙ rw (u, x))))
              | inr c ↦ passed (rw u (not-true (written S leaders useful code rows p t) (right_true (bit (liveOut S leaders useful code rows p) t) _ c))) (left_true (bit (liveOut S leaders useful code rows p) t) _ c)
            ]
            place h passed true u true x b = passed (unwritten (written S leaders useful code rows p t) refl) b
              where
                unwritten : (w : Bool) → written S leaders useful code rows p t ≡ w → writes p t ≡ false
                unwritten true w = absurd (false≢true (sym (A.unread p t h x w) ∙ b))
                unwritten false w = rw (u, w) refl
            place h passed false u x y b = passed (rw u refl) b

-- ---- slots of ranges, found

has_slot : (r : Range) (k : ℕ) → k < r.count → range_has (r.start + k) r ≡ true
unfolding range_has
has_slot r k h = rw (le-leb r.start (r.start + k) (omega arith), lt-ltb (r.start + k) (r.start + r.count) (omega arith)) refl

every_fails : (k : ℕ) (t : ℕ → Bool) → every k t ≡ false → (i : ℕ) × (i < k) × (t i ≡ false)
unfolding every
every_fails zero t e = absurd (true≢false e)
every_fails (suc k) t e = go (t k) refl e (every_fails k t)
  where
    go : (b : Bool) → t k ≡ b → cond b (every k t) false ≡ false → (every k t ≡ false → (i : ℕ) × (i < k) × (t i ≡ false)) → (i : ℕ) × (i < suc k) × (t i ≡ false)
    go true q e ih = let r = ih e in (r.0, (let l = r.1 in omega arith), r.2)
    go false q e ih = (k, omega arith, q)

-- a store that is not dead has a live slot
pub live_slot : (S : Sections) (a : Row) (rs : List Range) → ((t : ℕ) → any_of (range_has t) rs ≡ true → is_scalar S t ≡ true) → all_of (unread S a) rs ≡ false
    → (t : ℕ) × (any_of (range_has t) rs ≡ true) × (bit a t ≡ true)
unfolding all_of any_of unread
live_slot S a [] f e = absurd (true≢false e)
live_slot S a (r ∷ rs) f e = go (live_slot S a rs (λ t h. f t (or_right (range_has t r) _ h))) (every r.count (λ k. is_scalar S (r.start + k) && not (get_or a (r.start + k) false))) refl e
  where
    go : (all_of (unread S a) rs ≡ false → (t : ℕ) × (any_of (range_has t) rs ≡ true) × (bit a t ≡ true)) → (b : Bool) → every r.count (λ k. is_scalar S (r.start + k) && not (get_or a (r.start + k) false)) ≡ b → (b && all_of (unread S a) rs) ≡ false
        → (t : ℕ) × ((range_has t r || any_of (range_has t) rs) ≡ true) × (bit a t ≡ true)
    go ih true q e = let r' = ih e in (r'.0, or_right (range_has r'.0 r) _ r'.1, r'.2)
    go ih false q e =
        let i = every_fails r.count (λ k. is_scalar S (r.start + k) && not (get_or a (r.start + k) false)) q in
        let t = r.start + i.0 in
        let has : range_has t r ≡ true = has_slot r i.0 i.1 in
        let scalar : is_scalar S t ≡ true = f t (or_left (range_has t r) (any_of (range_has t) rs) has) in
        (t, or_left (range_has t r) _ has, unlike (is_scalar S t) (bit a t) scalar i.2)
      where
        unlike : (x y : Bool) → x ≡ true → (x && not y) ≡ false → y ≡ true
        unlike true true h e = refl
        unlike true false h e = absurd (true≢false e)
        unlike false y h e = absurd (false≢true h)

-- a slot of ranges within s is below s
pub slot_below : (s t : ℕ) (rs : List Range) → all_of (range_within s) rs ≡ true → any_of (range_has t) rs ≡ true → t < s
unfolding all_of any_of range_has
slot_below s t [] w e = absurd (false≢true e)
slot_below s t (r ∷ rs) w e = elim (either (leb r.start t && ltb t (r.start + r.count)) (any_of (range_has t) rs) e) [
  | inl h ↦ within_slot s t r (left_true (range_within s r) _ w) (leb-true r.start t (left_true (leb r.start t) _ h)) (ltb-true t (r.start + r.count) (right_true (leb r.start t) _ h))
  | inr h ↦ slot_below s t rs (right_true (range_within s r) _ w) h
]
