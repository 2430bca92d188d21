-- The places that the pass keeps where it found live slots.
-- Assumes nothing.
use Rattle.std.specs.Prelude.{Option, None, Some, ◌≡◌, Bool, cond, not, ◌&&◌, ◌||◌, List, [], ◌∷◌, eqb, leb, ltb, length, get_or, replicate}
use Rattle.std.proofs.Math.Path.{refl}
use Rattle.std.proofs.Common.{sym, ap, ◌∙◌, true≢false, arith, leb-true, ltb-true}
use Rattle.std.proofs.Math.Bool.{true, false}
use Rattle.std.proofs.lemmas.Bool.{false≢true}
use Prim.Native.Nat.{ℕ, suc, ◌+◌, ◌*◌, ◌-◌, ◌/◌, ◌≤◌, ◌<◌}
use Rattle.std.proofs.Math.ListN.{length-replicate}
use Rattle.words.specs.laws.Lists.{every_at}
use Rattle.instruction.specs.declared.Class.{Class}
use Rattle.instruction.specs.declared.Class.TheVariants.{Hint, LoadInt, LoadConst, Copy, CopyN, Unary, Binary, Jump, JumpIf, JumpIfNot, ForLoop, Return, Panic, Outside, Invalid}
use Rattle.instruction.specs.Class.{is_pure}
use Rattle.instruction.specs.Instruction.{class}
use Rattle.unit.specs.Size.{set_words, max_set_words}
use Rattle.effects.specs.declared.Range.{Range}
use Rattle.effects.specs.Shape.{Tables, Sections, Cell, cell_at}
use Rattle.effects.specs.laws.Sound.{sound}
use Rattle.effects.specs.Effects.{all_reads, sure_writes, perhaps_writes, writes, range_has, all_of, any_of}
use Rattle.effects.specs.laws.ByClass.{is_outside}
use Rattle.flow.specs.Branch.{branches, target}
use Rattle.flow.specs.Block.{block_count}
use Rattle.flow.specs.Loop.{reached_places, anchors}
use Rattle.flow.specs.laws.Marks.{Marked}
use Rattle.values.specs.Number.{is_scalar}
use Rattle.flow.specs.laws.Flags.{Flags}
use Rattle.pc_map.specs.Boundary.{is_kept}
use Rattle.pc_map.specs.Relocate.{retain_from}
use Rattle.liveness.specs.Live.{Row, no_row, solve_in, live_rows, max_liveness_work}
use Rattle.liveness.specs.Dead.{unread, is_dead, sweep_from, without_dead, dead_stores}
use Rattle.liveness.specs.laws.Sweep.{sweep_flags, sweep_long}
use Rattle.liveness.specs.laws.Rows.{bit, start_wide}
use Rattle.liveness.specs.laws.Unread.{pure_inside}
use Rattle.answer.specs.Jump.{jump_rounds}
use Rattle.answer.specs.Pass.{useful_places, kept_places}
use Rattle.lines.specs.Lines.{places_of}
use Rattle.unit.specs.Result.{Retained}
use Rattle.run.specs.Visits.{noted_at, SameVisits}
use Rattle.run.specs.Program.{Function, given_ranges, slots_of, program_of}
use Rattle.run.specs.Returned.{result_function}
use Rattle.run.specs.laws.Gives.{given_sure, jump_gives}
use Rattle.words.specs.laws.Truth.{left_true, right_true}
use Rattle.run.specs.laws.Step.{Succ, next, branch}
use Rattle.run.specs.laws.Frame.{In}
use Rattle.run.proofs.laws.Frame.{slots_any, slots_within, any_left}
use Rattle.run.specs.laws.Jumps.{rounds_fewer}
use Rattle.run.specs.laws.Removed.{passes, Dropped, store, Removable}
use Rattle.run.proofs.laws.Removed.{passing_falls, removed, removed_runnable}
use Rattle.run.specs.laws.Runnable.{Runnable}
use Rattle.run.specs.laws.Solved.{solved, solve_long}
use Rattle.run.specs.laws.RowBits.{solve_wide}
use Rattle.run.specs.laws.Alive.{flow_gone, flow_kept, flow_reads, before, after, dead, stays, Analysed, before_flow, out, stays_at}
use Rattle.run.proofs.laws.Optimized.{Removing, not_useful, plain_class, hint_gives, reach_invariant, inner, skipped, removable, plain_removable}

-- ---- a dead store's slots are not live

unread_slot : (S : Sections) (a : Row) (r : Range) (s : ℕ) → unread S a r ≡ true → range_has s r ≡ true → bit a s ≡ false
unfolding unread range_has
unread_slot S a r s u h =
    let lo : r.start ≤ s = leb-true r.start s (left_true (leb r.start s) (ltb s (r.start + r.count)) h) in
    let hi : s < r.start + r.count = ltb-true s (r.start + r.count) (right_true (leb r.start s) (ltb s (r.start + r.count)) h) in
    let k : s - r.start < r.count = omega arith in
    let e : r.start + (s - r.start) ≡ s = omega arith in
    let t = every_at r.count (λ k. is_scalar S (r.start + k) && not (get_or a (r.start + k) false)) u (s - r.start) k in
    let n : not (get_or a (r.start + (s - r.start)) false) ≡ true = right_true (is_scalar S (r.start + (s - r.start))) (not (get_or a (r.start + (s - r.start)) false)) t in
    go (bit a s) (rw e at n)
  where
    go : (t : Bool) → not t ≡ true → t ≡ false
    go true e = absurd (false≢true e)
    go false e = refl

unread_slots : (S : Sections) (a : Row) (rs : List Range) (s : ℕ) → all_of (unread S a) rs ≡ true → any_of (range_has s) rs ≡ true → bit a s ≡ false
unfolding all_of any_of
unread_slots S a [] s u h = absurd (false≢true h)
unread_slots S a (r ∷ rs) s u h =
    go (range_has s r) refl h (unread_slots S a rs s (right_true (unread S a r) (all_of (unread S a) rs) u))
  where
    go : (t : Bool) → range_has s r ≡ t → (t || any_of (range_has s) rs) ≡ true → (any_of (range_has s) rs ≡ true → bit a s ≡ false) → bit a s ≡ false
    go true e g ih = unread_slot S a r s (left_true (unread S a r) (all_of (unread S a) rs) u) e
    go false e g ih = ih g

-- a pure class goes by fields and passes
pure_passes : (k : Class) → is_pure k ≡ true → passes k ≡ true
unfolding is_pure passes
pure_passes Hint e = refl
pure_passes LoadInt e = refl
pure_passes LoadConst e = refl
pure_passes Copy e = refl
pure_passes CopyN e = refl
pure_passes Unary e = refl
pure_passes Binary e = refl
pure_passes Jump e = e
pure_passes JumpIf e = e
pure_passes JumpIfNot e = e
pure_passes ForLoop e = e
pure_passes Return e = e
pure_passes Panic e = e
pure_passes Outside e = e
pure_passes Invalid e = e

pub dead_pure : (S : Sections) (x : Cell) (a : Row) → is_dead S x a ≡ true → is_pure (class x.instruction) ≡ true
unfolding is_dead
dead_pure S x a e = go (is_pure (class x.instruction)) e
  where
    go : (t : Bool) → cond t (all_of (unread S a) (writes S.tables x)) false ≡ true → t ≡ true
    go true e = refl
    go false e = e

pub dead_unread : (S : Sections) (x : Cell) (a : Row) (s : ℕ) → is_dead S x a ≡ true → any_of (range_has s) (sure_writes S.tables x) ≡ true → bit a s ≡ false
unfolding is_dead writes
dead_unread S x a s e h = go (is_pure (class x.instruction)) e
  where
    go : (t : Bool) → cond t (all_of (unread S a) (writes S.tables x)) false ≡ true → bit a s ≡ false
    go true e = unread_slots S a (writes S.tables x) s e (any_left (range_has s) (sure_writes S.tables x) (perhaps_writes S.tables x) h)
    go false e = absurd (false≢true e)

module _ (G : Function) (leaders : List ℕ) (N : Removing G leaders) where
  abbrev S : Sections
  S = G.sections

  abbrev T : Tables
  T = G.sections.tables

  abbrev code : List Cell
  code = G.cells

  abbrev n : ℕ
  n = length code

  abbrev cell : ℕ → Cell
  cell p = cell_at code p

  abbrev marks : List ℕ
  marks = reached_places code

  abbrev useful : List ℕ
  useful = useful_places marks code

  abbrev Reach : ℕ → Type 0
  Reach p = (p ≤ n) × (p < n → Marked marks p)

  -- rows that were found make an analysis
  pub analysed : (rows : List Row) → live_rows S leaders useful code ≡ Some rows → Analysed S leaders useful code rows
  unfolding live_rows
  analysed rows e = go (eqb (set_words S.locals) 0) (leb (set_words S.locals * block_count leaders) max_set_words) e
    where
      found : solve_in S n leaders useful (max_liveness_work / (set_words S.locals * block_count leaders)) code (replicate (block_count leaders) (no_row S n leaders useful)) ≡ Some rows
          → Analysed S leaders useful code rows
      found f = record {
        long = N.long;
        flags = N.flags;
        one = N.one;
        count = solve_long S leaders useful code _ _ rows f ∙ length-replicate (block_count leaders) (no_row S n leaders useful);
        rest = solved S leaders useful code _ _ rows f;
        wide = solve_wide S n leaders useful _ code _ rows (start_wide S n leaders useful (block_count leaders)) f;
        inner = inner G leaders N;
        targets = N.targets;
        unread = λ p s h d w. dead_unread S (cell p) (after S leaders useful code rows p) s d w;
      }

      go : (a b : Bool)
          → cond a None (cond b (solve_in S n leaders useful (max_liveness_work / (set_words S.locals * block_count leaders)) code (replicate (block_count leaders) (no_row S n leaders useful))) None) ≡ Some rows
          → Analysed S leaders useful code rows
      go true b e = let z : ◌≡◌ {A = ℕ} 0 1 = cc in absurd (omega arith)
      go false true e = found e
      go false false e = let z : ◌≡◌ {A = ℕ} 0 1 = cc in absurd (omega arith)

  module _ (rows : List Row) (found : live_rows S leaders useful code ≡ Some rows) where
    abbrev A : Analysed S leaders useful code rows
    A = analysed rows found

    -- the useful places without the dead stores
    abbrev keep : List ℕ
    keep = (sweep_from S n leaders useful rows 0 code).keep

    abbrev final : List ℕ
    final = jump_rounds 16 (anchors marks code) code keep

    -- the slots that count: inside the frame, and live before the place
    abbrev Live : ℕ → ℕ → Type 0
    Live p s = (s < S.locals) × (bit (before S leaders useful code rows p) s ≡ true)

    abbrev remains : ℕ → Bool
    remains p = stays S leaders useful code rows p

    keep_long : length keep ≡ n
    keep_long = sweep_long S leaders useful code rows 0 code

    pub keep_at_lem : (p : ℕ) → p < n → is_kept keep p ≡ remains p
    keep_at_lem p h = ap (λ (k : ℕ). eqb k 1) (stays_at S leaders useful code rows p h) ∙ go (remains p)
      where
        go : (t : Bool) → eqb (cond t 1 0) 1 ≡ t
        go true = refl
        go false = refl

    keep_flags : Flags keep
    keep_flags = sweep_flags S leaders useful code rows 0 code

    -- the rounds only drop places
    still_kept : (p : ℕ) → p < n → is_kept final p ≡ true → remains p ≡ true
    still_kept p h e = sym (keep_at_lem p h) ∙ go (is_kept keep p) refl
      where
        go : (t : Bool) → is_kept keep p ≡ t → is_kept keep p ≡ true
        go true k = k
        go false k = absurd (false≢true (sym (rounds_fewer (anchors marks code) code 16 keep p k) ∙ e))

    reads_live : (p : ℕ) → p < n → Reach p → is_kept final p ≡ true → (s : ℕ) → In s (slots_of (all_reads T (cell p))) → Live p s
    reads_live p h r e s i =
        let l : s < S.locals = slots_within S.locals (all_reads T (cell p)) s (sound S.locals T (cell p) (N.operands p h)).reads_within i in
        (l, before_flow S leaders useful code rows A p s h l ∙ flow_reads (remains p) _ _ _ (still_kept p h e) (slots_any (all_reads T (cell p)) s i))

    -- what is live at a successor and not written is live before the place
    passes_on : (p : ℕ) → p < n → (q : ℕ) → Succ (class (cell p).instruction) p (cell p).instruction q → (s : ℕ) → Live q s
        → any_of (range_has s) (given_ranges T (cell p)) ≡ false → Live p s
    unfolding given_ranges
    passes_on p h q g s v w =
        (v.0, before_flow S leaders useful code rows A p s h v.0 ∙ flow_kept (remains p) _ _ _ (out S leaders useful code rows A p q s v.0 h g v.1) (go (any_of (range_has s) (sure_writes T (cell p))) refl))
      where
        go : (t : Bool) → any_of (range_has s) (sure_writes T (cell p)) ≡ t → any_of (range_has s) (sure_writes T (cell p)) ≡ false
        go true e = absurd (true≢false (sym (any_left (range_has s) (sure_writes T (cell p)) _ e) ∙ w))
        go false e = e

    -- a place that is gone passes on what is live
    gone_live : (p : ℕ) → p < n → remains p ≡ false → passes (class (cell p).instruction) ≡ true → (s : ℕ) → Live (suc p) s → Live p s
    gone_live p h e k s v =
        (v.0, before_flow S leaders useful code rows A p s h v.0 ∙ flow_gone (remains p) _ _ _ e (out S leaders useful code rows A p (suc p) s v.0 h (next (passing_falls (class (cell p).instruction) k)) v.1))

    dead_gives : (p : ℕ) → p < n → dead S leaders useful code rows p ≡ true → (s : ℕ) → Live (suc p) s → any_of (range_has s) (given_ranges T (cell p)) ≡ false
    dead_gives p h d s v =
        let pure : is_pure (class (cell p).instruction) ≡ true = dead_pure S (cell p) (after S leaders useful code rows p) d in
        let f : is_outside (class (cell p).instruction) ≡ false = pure_inside (class (cell p).instruction) pure in
        let k : passes (class (cell p).instruction) ≡ true = pure_passes (class (cell p).instruction) pure in
        let a : bit (after S leaders useful code rows p) s ≡ true = out S leaders useful code rows A p (suc p) s v.0 h (next (passing_falls (class (cell p).instruction) k)) v.1 in
        ap (any_of (range_has s)) (given_sure T (cell p) f) ∙ go (any_of (range_has s) (sure_writes T (cell p))) refl a
      where
        go : (t : Bool) → any_of (range_has s) (sure_writes T (cell p)) ≡ t → bit (after S leaders useful code rows p) s ≡ true → any_of (range_has s) (sure_writes T (cell p)) ≡ false
        go true e a = absurd (true≢false (sym a ∙ dead_unread S (cell p) (after S leaders useful code rows p) s d e))
        go false e a = e

    drops_live : (p : ℕ) → p < n → Reach p → is_kept final p ≡ false → Dropped G final Reach Live p
    unfolding passes branches
    drops_live p h r e = go (is_kept keep p) refl
      where
        jumped : (s : ℕ) → class (cell p).instruction ≡ Jump → Live (target p (cell p).instruction) s → Live p s
        jumped s c v = let b : branches (class (cell p).instruction) ≡ true = rw c refl in passes_on p h _ (branch b) s v (jump_gives T (cell p) c s)

        gone : remains p ≡ false → (t : Bool) → is_kept useful p ≡ t → Dropped G final Reach Live p
        gone g true k =
            let d : dead S leaders useful code rows p ≡ true = died (is_kept useful p) (dead S leaders useful code rows p) k g in
            let pass : passes (class (cell p).instruction) ≡ true = pure_passes (class (cell p).instruction) (dead_pure S (cell p) (after S leaders useful code rows p) d) in
            store pass (gone_live p h g pass) (dead_gives p h d)
          where
            died : (k d : Bool) → k ≡ true → (k && not d) ≡ false → d ≡ true
            died k true e g = refl
            died true false e g = absurd (true≢false g)
            died false false e g = absurd (false≢true e)
        gone g false k =
            let c : class (cell p).instruction ≡ Hint = plain_class G leaders N p (not_useful G leaders N p h (r.1 h) k) in
            let pass : passes (class (cell p).instruction) ≡ true = rw c refl in
            store pass (gone_live p h g pass) (λ s v. hint_gives G leaders N p s c)

        go : (t : Bool) → is_kept keep p ≡ t → Dropped G final Reach Live p
        go true k = skipped G leaders N keep keep_flags keep_long Live p h k e jumped
        go false k = gone (sym (keep_at_lem p h) ∙ k) (is_kept useful p) refl

    live_removable : Removable G final Reach Live
    live_removable = removable G leaders N keep keep_flags keep_long Live reads_live (λ p h r e q g s v w. passes_on p h q g s v w) drops_live

  abbrev kept : List Retained
  kept = retain_from (kept_places S leaders marks code) 0 code

  -- the conditions hold of the places that the pass keeps, whether it drops dead stores or skips them
  kept_removable : (live : ℕ → ℕ → Type 0) × Removable G (kept_places S leaders marks code) Reach live
  unfolding kept_places dead_stores without_dead
  kept_removable = go (live_rows S leaders useful code) refl
    where
      go : (o : Option (List Row)) → live_rows S leaders useful code ≡ o
          → (live : ℕ → ℕ → Type 0) × Removable G (jump_rounds 16 (anchors marks code) code (without_dead S leaders useful code o)) Reach live
      go None e = (_, plain_removable G leaders N)
      go (Some rows) e = (_, live_removable rows e)

  -- the places that the pass keeps, relocated, run as all of them do
  pub kept_visits : SameVisits (program_of G) (program_of (result_function S kept)) (noted_at (places_of kept))
  kept_visits = removed G _ Reach _ kept_removable.1 (reach_invariant G leaders N) (λ W p σ r. r)

  -- and can be run
  pub kept_runnable : Runnable (result_function S kept)
  kept_runnable = removed_runnable G _ Reach _ kept_removable.1
