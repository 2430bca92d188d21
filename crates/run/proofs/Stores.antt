-- Document 02, L7: a kept store has a reader, and a store with a reader is kept.
-- Assumes nothing.
use Rattle.std.proofs.Math.Path.{◌≡◌, refl, sym}
use Rattle.std.proofs.Common.{ap, ◌∙◌, arith}
use Rattle.std.specs.Prelude.{Option, None, Some, Bool, ◌&&◌, List, ℕ, suc, ◌*◌, ◌-◌, ◌/◌, ◌<◌, eqb, leb, length, replicate}
use Rattle.std.proofs.Math.Bool.{true, false, cond, not, false≢true}
use Rattle.std.proofs.lemmas.List.{length-replicate}
use Rattle.std.proofs.lemmas.Bool.{not-true}
use Rattle.words.specs.Bytes.{Bytes}
use Rattle.words.specs.Lists.{is_in}
use Rattle.words.specs.laws.Truth.{left_true, right_true}
use Rattle.instruction.specs.Class.{is_pure}
use Rattle.instruction.specs.Instruction.{class}
use Rattle.instruction.specs.laws.ReadBack.{jump_class}
use Rattle.instruction.specs.Opcode as op
use Rattle.unit.specs.Size.{set_words, max_set_words}
use Rattle.effects.specs.Shape.{Tables, Sections, Cell, cell_at}
use Rattle.effects.specs.Effects.{sure_writes, writes, range_has, all_of, any_of}
use Rattle.effects.specs.laws.Sound.{sound, sure_within}
use Rattle.effects.proofs.laws.ByClass.{perhaps_by_class}
use Rattle.effects.proofs.laws.Ranges.{writes_sure}
use Rattle.unit.specs.Layout.{header_of}
use Rattle.unit.specs.Result.{Retained}
use Rattle.lines.specs.Lines.{places_of}
use Rattle.effects.specs.Check.{Passed}
use Rattle.effects.specs.Check.{operand_check}
use Rattle.flow.specs.Branch.{branch_check}
use Rattle.flow.specs.Block.{block_count, leaders as leaders_of}
use Rattle.flow.specs.Loop.{reached_places, anchors}
use Rattle.pc_map.specs.Boundary.{is_kept}
use Rattle.liveness.specs.Live.{Row, edges, is_last, no_row, joined, solve_in, live_rows, max_liveness_work}
use Rattle.liveness.specs.Dead.{unread, is_dead, without_dead, dead_stores}
use Rattle.liveness.specs.laws.Rows.{bit, start_wide}
use Rattle.liveness.specs.laws.Unread.{pure_inside}
use Rattle.liveness.specs.laws.Sweep.{sweep_long}
use Rattle.answer.specs.Pass.{rewritten, is_worked_on, useful_places, kept_places, optimized}
use Rattle.answer.specs.Answer.{Lent, cells_of, sections_of, room_for, pass_answer}
use Rattle.run.specs.Program.{Function}
use Rattle.run.specs.Returned.{given_function}
use Rattle.run.specs.Reader.{writes_slot, HasReader, within, beyond, ScalarStore, numbered, LiveFound, StoresRead}
use Rattle.run.specs.laws.Jumps.{rounds_long, rounds_fewer, rounds_keep}
use Rattle.run.proofs.laws.Optimized.{Removing, useful_long}
use Rattle.run.specs.laws.Alive.{before, after, dead, stays, Analysed, after_last, after_inner}
use Rattle.run.proofs.laws.Kept.{dead_unread, analysed, keep_at_lem}
use Rattle.run.proofs.laws.Numbered.{numbered_function, numbered_long}
use Rattle.run.proofs.laws.Checked.{Well, numberable, removing}
use Rattle.run.proofs.laws.Passed.{some_code, few, optimized_kept}
use Rattle.run.proofs.laws.Fitting.{kept_flags}
use Rattle.run.proofs.laws.Visits.{place_kept}
use Rattle.run.proofs.Given.{answer_optimized, worked_well}
use Rattle.run.proofs.laws.Readers.{Inside, solved_inside, none_inside, joined_in, edge_start, row_live, reader_whole, reader_before, before_reader, live_slot, slot_below}

both_true : (a b : Bool) → a ≡ true → b ≡ true → (a && b) ≡ true
both_true true b e f = f
both_true false b e f = absurd (false≢true e)

module _ (G : Function) (leaders : List ℕ) (N : Removing G leaders) where
  abbrev S : Sections
  S = G.sections

  abbrev T : Tables
  T = G.sections.tables

  abbrev code : List Cell
  code = G.cells

  abbrev n : ℕ
  n = length code

  abbrev cell : ℕ → Cell
  cell p = cell_at code p

  abbrev marks : List ℕ
  marks = reached_places code

  abbrev useful : List ℕ
  useful = useful_places marks code

  -- the places that are left when stores are dropped
  abbrev kept : List ℕ
  kept = dead_stores S leaders useful code

  module _ (rows : List Row) (found : live_rows S leaders useful code ≡ Some rows) where
    abbrev A : Analysed S leaders useful code rows
    A = analysed G leaders N rows found

    kept_stays : (q : ℕ) → q < n → is_kept kept q ≡ stays S leaders useful code rows q
    unfolding dead_stores without_dead
    kept_stays q h = rw found (keep_at_lem G leaders N rows found q h)

    rows_inside : Inside G leaders N kept rows
    unfolding live_rows
    rows_inside = go (eqb (set_words S.locals) 0) (leb (set_words S.locals * block_count leaders) max_set_words) found
      where
        go : (a b : Bool)
            → cond a None (cond b (solve_in S n leaders useful (max_liveness_work / (set_words S.locals * block_count leaders)) code (replicate (block_count leaders) (no_row S n leaders useful))) None) ≡ Some rows
            → Inside G leaders N kept rows
        go true b e = let z : ◌≡◌ {A = ℕ} 0 1 = cc in absurd (omega arith)
        go false true e =
            solved_inside G leaders N kept _ _ rows (start_wide S n leaders useful (block_count leaders)) (length-replicate (block_count leaders) (no_row S n leaders useful)) (none_inside G leaders N kept (block_count leaders)) e
        go false false e = let z : ◌≡◌ {A = ℕ} 0 1 = cc in absurd (omega arith)

    abbrev live : ℕ → Row
    live p = after S leaders useful code rows p

    module _ (p : ℕ) (h : p < n) (s : ScalarStore S (cell p)) where
      below : (t : ℕ) → any_of (range_has t) (sure_writes T (cell p)) ≡ true → t < S.locals
      below t e = slot_below S.locals t (sure_writes T (cell p)) (sure_within (sound S.locals T (cell p) (N.operands p h))) e

      -- a slot that is live after the store has a reader
      live_reader : (t : ℕ) → writes_slot T leaders useful kept code p t ≡ true → bit (live p) t ≡ true → HasReader T leaders useful kept code p
      live_reader t w b = go (is_last n leaders p) refl
        where
          l : t < S.locals
          l = below t (right_true (is_kept useful p) _ w)

          go : (e : Bool) → is_last n leaders p ≡ e → HasReader T leaders useful kept code p
          go true e =
              let out : bit (joined S n leaders useful rows (edges n p (cell p))) t ≡ true = ap (λ (r : Row). bit r t) (sym (after_last S leaders useful code rows A p e _)) ∙ b in
              let j = joined_in G leaders N kept rows (edges n p (cell p)) t out in
              beyond w e j.1 (rows_inside j.0 t (edge_start G leaders N kept p j.0 h e j.1) l j.2)
          go false e =
              let next : bit (before S leaders useful code rows (suc p)) t ≡ true = ap (λ (r : Row). bit r t) (sym (after_inner S leaders useful code rows A p e _)) ∙ b in
              within w e (before_reader G leaders N kept rows A kept_stays rows_inside (n - suc p) (suc p) t (omega arith) l next)

      -- and one with a reader is live
      reader_live : HasReader T leaders useful kept code p → (t : ℕ) × (writes_slot T leaders useful kept code p t ≡ true) × (bit (live p) t ≡ true)
      reader_live (within {t = t} w e r) =
          (t, w, ap (λ (x : Row). bit x t) (after_inner S leaders useful code rows A p e _) ∙ reader_before G leaders N kept rows A kept_stays refl (below t (right_true (is_kept useful p) _ w)) r)
      reader_live (beyond {t = t} {r = q} w e i r) =
          (t, w, row_live G leaders N kept rows A p q t h e i (reader_whole G leaders N kept rows A (below t (right_true (is_kept useful p) _ w)) r) _)

      store_reader : is_kept kept p ≡ true → HasReader T leaders useful kept code p
      unfolding is_dead
      store_reader k =
          let both : (is_kept useful p && not (dead S leaders useful code rows p)) ≡ true = sym (kept_stays p h) ∙ k in
          let sure : writes T (cell p) ≡ sure_writes T (cell p) = writes_sure T (cell p) (perhaps_by_class T (cell p) (pure_inside (class (cell p).instruction) s.pure)) in
          let alive : all_of (unread S (live p)) (sure_writes T (cell p)) ≡ false = rw (s.pure, sure) at (not-true (dead S leaders useful code rows p) (right_true (is_kept useful p) _ both)) in
          let slot = live_slot S (live p) (sure_writes T (cell p)) s.scalar alive in
          live_reader slot.0 (both_true (is_kept useful p) _ (left_true (is_kept useful p) _ both) slot.1) slot.2

      reader_store : HasReader T leaders useful kept code p → is_kept kept p ≡ true
      reader_store r =
          let slot = reader_live r in
          kept_stays p h ∙ go slot.0 (dead S leaders useful code rows p) refl (left_true (is_kept useful p) _ slot.1) (right_true (is_kept useful p) _ slot.1) slot.2
        where
          go : (t : ℕ) (d : Bool) → dead S leaders useful code rows p ≡ d → is_kept useful p ≡ true → any_of (range_has t) (sure_writes T (cell p)) ≡ true → bit (live p) t ≡ true
              → (is_kept useful p && not (dead S leaders useful code rows p)) ≡ true
          go t true d u w b = absurd (false≢true (sym (dead_unread S (cell p) (live p) t d w) ∙ b))
          go t false d u w b = rw (u, d) refl

      no_jump : (cell p).instruction.op ≡ op.Jump → ⊥
      unfolding is_pure
      no_jump e = false≢true (rw (jump_class (cell p).instruction e) at s.pure)

      -- the jump rounds drop no store
      pub remains_reader : is_kept (kept_places S leaders marks code) p ≡ true → HasReader T leaders useful kept code p
      unfolding kept_places
      remains_reader e = go (is_kept kept p) refl
        where
          go : (t : Bool) → is_kept kept p ≡ t → HasReader T leaders useful kept code p
          go true k = store_reader k
          go false k = absurd (false≢true (sym (rounds_fewer (anchors marks code) code 16 kept p k) ∙ e))

      pub reader_remains : HasReader T leaders useful kept code p → is_kept (kept_places S leaders marks code) p ≡ true
      unfolding kept_places
      reader_remains r = rounds_keep (anchors marks code) code 16 kept p h no_jump (reader_store r)

-- a flag for each place
pub kept_long : (S : Sections) (leads : List ℕ) (cells : List Cell) → length (kept_places S leads (reached_places cells) cells) ≡ length cells
unfolding kept_places dead_stores without_dead
kept_long S leads cells = rounds_long (anchors (reached_places cells) cells) cells 16 _ (go (live_rows S leads (useful_places (reached_places cells) cells) cells))
  where
    go : (o : Option (List Row)) → length (without_dead S leads (useful_places (reached_places cells) cells) cells o) ≡ length cells
    go None = useful_long (reached_places cells) cells
    go (Some rows) = sweep_long S leads (useful_places (reached_places cells) cells) cells rows 0 cells

-- Of a function that the pass comes so far with, whatever its answer is then.
module _ (F : Function) (w : Well F) (worked : is_worked_on (length F.cells) ≡ true) where
  abbrev keep : List ℕ
  keep = kept_places F.sections (leaders_of F.cells) (reached_places (numbered F.sections F.cells)) (numbered F.sections F.cells)

  module _ (operands : operand_check F.sections.locals F.sections.tables F.cells ≡ Passed) (branches : branch_check F.cells ≡ Passed) where
    long : length (numbered F.sections F.cells) ≡ length F.cells
    unfolding numbered_function
    long = numbered_long F (leaders_of F.cells) (numberable F w (some_code F w worked) (few F w worked) operands branches)

    pub stores_read : LiveFound F.sections F.cells → StoresRead F.sections F.cells (is_kept keep)
    unfolding numbered_function
    stores_read (rows, found) =
        let N = removing F w (some_code F w worked) (few F w worked) operands branches in
        record {
          reader = λ p h s e. remains_reader _ (leaders_of F.cells) N rows found p (rw long h) s e;
          kept = λ p h s r. reader_remains _ (leaders_of F.cells) N rows found p (rw long h) s r;
        }

  -- of the old places of what is retained
  pub stores_retained : (kept : List Retained) → optimized F.sections F.cells ≡ rewritten kept → LiveFound F.sections F.cells
      → StoresRead F.sections F.cells (λ p. is_in p (places_of kept))
  stores_retained kept e found =
      let k = optimized_kept F w worked kept e in
      let s = stores_read k.0 k.1 found in
      let code = numbered F.sections F.cells in
      let flags = kept_flags F.sections (leaders_of F.cells) code in
      let same : (p : ℕ) → p < length F.cells → is_in p (places_of kept) ≡ is_kept keep p =
      λ p h. rw (← k.2) (place_kept keep flags code (sym (kept_long F.sections (leaders_of F.cells) code)) p (rw (long k.0 k.1) h)) in
      record {
        reader = λ p h t r. s.reader p h t (sym (same p h) ∙ r);
        kept = λ p h t r. same p h ∙ s.kept p h t r;
      }

-- Document 02, L7, of a unit that one pass rewrites: the stores that remain are those with a reader.
pub pass_stores : (u : List ℕ) (l : Lent) (kept : List Retained) → Bytes u → pass_answer u l ≡ rewritten kept → LiveFound (sections_of u) (cells_of u)
    → StoresRead (sections_of u) (cells_of u) (λ p. is_in p (places_of kept))
unfolding pass_answer given_function
pass_stores u l kept b e found =
    let o = answer_optimized u (room_for (header_of u).counts l) kept e in
    stores_retained (given_function u) (worked_well b o.0) o.0.worked kept o.1 found
