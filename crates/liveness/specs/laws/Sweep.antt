-- The sweep over all places in lent memory is the sweep over the rows; it leaves flags.
-- Assumes nothing.
use Rattle.std.specs.Prelude.{Option, None, Some, ◌≡◌, Bool, ◌&&◌, get_or, drop}
use Rattle.std.proofs.Math.Path.{refl, ap}
use Rattle.std.proofs.Common.{sym, ◌∙◌, inl, inr, drop-cons, take-suc, get_or-take, length-take-le, eqb-true, eq-eqb}
use Rattle.std.proofs.Math.Bool.{true, false, cond, not}
use Rattle.std.proofs.lemmas.Bool.{false≢true, eqb-false}
use mathlib.Core.List.{List, [], ◌∷◌, ◌++◌, append-nil}
use Prim.Native.Nat.{ℕ, zero, suc, ◌≤◌, ◌<◌}
use Rattle.std.proofs.Math.Decide.{dec_le}
use native.Mathlib.Omega.{arith}
use Rattle.std.proofs.Math.ListN.{length, take, get_or-append}
use Rattle.std.proofs.Math.Seq.{drop-length, take-length, append_snoc}
use Rattle.std.proofs.lemmas.List.{set_at}
use borrow.Rule.Slice.PartMut.{put_mid}
use Rattle.words.specs.Lists.{tabulate}
use Rattle.unit.specs.laws.Region.{keep_at}
use Rattle.effects.specs.Shape.{Tables, Sections, Cell, cell_at, no_cell}
use Rattle.instruction.specs.Instruction.{of_word}
use Rattle.effects.specs.laws.Cells.{cell_of, cells_by, cells_long, cell_at_lem}
use Rattle.effects.specs.Effects.{all_reads}
use Rattle.flow.specs.Branch.{branch_inside}
use Rattle.flow.specs.Block.{block_of, block_count}
use Rattle.flow.specs.laws.Marks.{Marked}
use Rattle.flow.specs.laws.Flags.{Flags, flag}
use Rattle.pc_map.specs.Boundary.{is_kept}
use Rattle.use_def.specs.laws.Touched.{Within, Before}
use Rattle.use_def.specs.laws.Free.{dead_by}
use Rattle.liveness.specs.Live.{Row, live_before, edges, is_last, joined, live_after, live_rows, no_row}
use Rattle.liveness.specs.Dead.{is_dead, swept_at, sweep_from, without_dead, dead_stores}
use Rattle.liveness.specs.Dead as dead
use Rattle.liveness.specs.laws.Rows.{Wide, before_bit, before_long, after_long}
use Rattle.liveness.specs.laws.Shown.{Holds, Shown, bit_past}
use Rattle.liveness.specs.laws.Round.{not_touched}
use Rattle.liveness.specs.laws.Out.{out_holds}
use Rattle.liveness.specs.laws.Unread.{dead_by_lem}
use Rattle.liveness.specs.laws.Sweeping.{Entered, Swept}
use Rattle.liveness.specs.laws.SetMemory.{code_words, live_of, leaders_of, blocks_of, flags_of}
use Rattle.liveness.specs.declared.SetLayout.{SetLayout}

-- a row before an instruction, of one after it that a set holds
pub before_holds : (T : Tables) (x : Cell) (s : ℕ) (r : Row) (l l' : List ℕ) → length r ≡ s → Within s (all_reads T x) → Holds l r → Before T x l l' → Holds l' (live_before T x r)
before_holds T x s r l l' e w h b t = elim (dec_le s t) [
  | yes g ↦
      b t ∙ rw (not_touched s t (all_reads T x) w g, h t, bit_past r t (rw e g), bit_past (live_before T x r) t (rw (before_long T x r, e) g))
  | no g ↦ b t ∙ rw (h t) (sym (before_bit T x r t (rw e (omega arith))))
]

module _ (S : Sections) (leaders keep₀ : List ℕ) (cells : List Cell) (rows : List Row) where
  abbrev pub sweep_at : ℕ → dead.Swept
  sweep_at p = sweep_from S (length cells) leaders keep₀ rows p (drop p cells)

  abbrev pub after_at : ℕ → Row
  after_at p = live_after S (length cells) leaders keep₀ rows p (cell_at cells p) (sweep_at (suc p)).before

  abbrev pub stays : ℕ → Bool
  stays p = is_kept keep₀ p && not (is_dead S (cell_at cells p) (after_at p))

  sweep_at_lem : (p : ℕ) → p < length cells → sweep_at p ≡ swept_at S (length cells) leaders keep₀ rows (cell_at cells p) (is_kept keep₀ p) (after_at p) (sweep_at (suc p))
  unfolding sweep_from
  sweep_at_lem p h = rw (drop-cons cells p no_cell h)

  goes : Row → dead.Swept → dead.Swept
  goes a r = record { keep = 0 ∷ r.keep; before = a }

  remains : Cell → Row → dead.Swept → dead.Swept
  remains x a r = record { keep = 1 ∷ r.keep; before = live_before S.tables x a }

  swept_before : (x : Cell) (k : Bool) (a : Row) (r : dead.Swept) → (swept_at S (length cells) leaders keep₀ rows x k a r).before ≡ cond (k && not (is_dead S x a)) (live_before S.tables x a) a
  unfolding swept_at goes remains
  swept_before x true a r = go (is_dead S x a)
    where
      go : (d : Bool) → (cond {A = dead.Swept} d (goes a r) (remains x a r)).before ≡ cond (not d) (live_before S.tables x a) a
      go true = refl
      go false = refl
  swept_before x false a r = refl

  pub swept_keep : (x : Cell) (k : Bool) (a : Row) (r : dead.Swept) → (swept_at S (length cells) leaders keep₀ rows x k a r).keep ≡ cond (k && not (is_dead S x a)) 1 0 ∷ r.keep
  unfolding swept_at goes remains
  swept_keep x true a r = go (is_dead S x a)
    where
      go : (d : Bool) → (cond {A = dead.Swept} d (goes a r) (remains x a r)).keep ≡ cond (not d) 1 0 ∷ r.keep
      go true = refl
      go false = refl
  swept_keep x false a r = refl

  pub before_at : (p : ℕ) → p < length cells → (sweep_at p).before ≡ cond (stays p) (live_before S.tables (cell_at cells p) (after_at p)) (after_at p)
  before_at p h = ap (λ (r : dead.Swept). r.before) (sweep_at_lem p h) ∙ swept_before (cell_at cells p) (is_kept keep₀ p) (after_at p) (sweep_at (suc p))

  pub keep_at_lem : (p : ℕ) → p < length cells → (sweep_at p).keep ≡ cond (stays p) 1 0 ∷ (sweep_at (suc p)).keep
  keep_at_lem p h = ap (λ (r : dead.Swept). r.keep) (sweep_at_lem p h) ∙ swept_keep (cell_at cells p) (is_kept keep₀ p) (after_at p) (sweep_at (suc p))

  -- what the sweep starts from
  pub record Grounds (w : ℕ) (blocks live : List ℕ) : Type 0 where
    pub long : length leaders ≡ length cells
    pub flags : Flags leaders
    pub one : Marked leaders 0
    pub wide : Wide S (length cells) leaders keep₀ rows
    pub each : length rows ≡ block_count leaders
    pub numbers : blocks ≡ tabulate (length cells) (block_of leaders)
    pub inside : (p : ℕ) → p < length cells → branch_inside (length cells) p (cell_at cells p).instruction ≡ true
    pub within : (p : ℕ) → Within S.locals (all_reads S.tables (cell_at cells p))
    pub shown : Shown w (no_row S (length cells) leaders keep₀) rows live
    pub long_keep : length keep₀ ≡ length cells
    pub keep_flags : Flags keep₀

  -- the places from p on are swept
  pub record SweepFrom (keep row : List ℕ) (p : ℕ) : Type 0 where
    pub kept : keep ≡ take p keep₀ ++ (sweep_at p).keep
    pub held : p < length cells → Holds row (sweep_at p).before
    pub broad : p < length cells → length (sweep_at p).before ≡ S.locals

  module _ (w : ℕ) (blocks live : List ℕ) (g : Grounds w blocks live) where
    pub sweep_begin : (row : List ℕ) (p : ℕ) → p ≡ length cells → SweepFrom keep₀ row p
    unfolding sweep_from
    sweep_begin row p e = record { kept = kept; held = λ h. absurd (omega arith); broad = λ h. absurd (omega arith) }
      where
        kept : keep₀ ≡ take p keep₀ ++ (sweep_at p).keep
        kept = rw (e, drop-length cells, append-nil, ← g.long_keep) (sym (take-length keep₀))

    pub sweep_end : (keep row : List ℕ) → SweepFrom keep row 0 → keep ≡ (sweep_from S (length cells) leaders keep₀ rows 0 cells).keep
    sweep_end keep row s = s.kept

    module _ (keep row row₁ keep' row' : List ℕ) (q : ℕ) (h : q < length cells) (s : SweepFrom keep row (suc q))
        (e : Entered (is_last (length cells) leaders q) w live blocks (length cells) q (cell_at cells q).instruction row row₁)
        (v : Swept S.tables (is_kept keep q) (dead_by S.types row₁ (cell_at cells q).instruction) (cell_at cells q) q keep keep' row₁ row') where
      -- a place that is not the last of its block has a next one
      next : is_last (length cells) leaders q ≡ false → suc q < length cells
      next f = elim (dec_le (length cells) (suc q)) [
        | yes m ↦
            let d : suc q ≡ length cells = omega arith in
            let z : ◌≡◌ {A = Bool} true false = rw (eq-eqb (suc q) (length cells) d) at f in
            absurd (false≢true (sym z))
        | no m ↦ omega arith
      ]

      after_holds : Holds row₁ (after_at q)
      unfolding live_after
      after_holds = go (is_last (length cells) leaders q) refl
        where
          go : (t : Bool) → is_last (length cells) leaders q ≡ t → Holds row₁ (cond t (joined S (length cells) leaders keep₀ rows (edges (length cells) q (cell_at cells q))) (sweep_at (suc q)).before)
          go true f = out_holds S (length cells) leaders keep₀ g.long g.flags g.one w rows live blocks g.each g.numbers g.shown q (cell_at cells q) row₁ (g.inside q h) (e.yes f)
          go false f = rw (e.no f) (s.held (next f))

      after_wide : length (after_at q) ≡ S.locals
      after_wide = after_long S (length cells) leaders keep₀ rows g.wide q (cell_at cells q) (sweep_at (suc q)).before (λ f. s.broad (next f))

      same_dead : is_dead S (cell_at cells q) (after_at q) ≡ dead_by S.types row₁ (cell_at cells q).instruction
      same_dead = dead_by_lem S (cell_at cells q) (after_at q) row₁ after_holds

      room : q < length keep₀
      room = rw g.long_keep h

      front : length (take (suc q) keep₀) ≡ suc q
      front = length-take-le (suc q) keep₀ (omega (arith, room))

      same_kept : get_or keep q 0 ≡ get_or keep₀ q 0
      same_kept = ap (λ (l : List ℕ). get_or l q 0) s.kept ∙ get_or-append (take (suc q) keep₀) (sweep_at (suc q)).keep 0 q (rw front (omega arith)) ∙ get_or-take (suc q) keep₀ q 0 (omega arith)

      split : keep ≡ take q keep₀ ++ (get_or keep₀ q 0 ∷ (sweep_at (suc q)).keep)
      split = s.kept ∙ ap (λ (l : List ℕ). l ++ (sweep_at (suc q)).keep) (take-suc keep₀ q 0 room) ∙ append_snoc (take q keep₀) (get_or keep₀ q 0) (sweep_at (suc q)).keep

      front_less : length (take q keep₀) ≡ q
      front_less = length-take-le q keep₀ (omega (arith, room))

      -- the flag and the row at q, in each case
      result : (k d : Bool) → is_kept keep₀ q ≡ k → is_dead S (cell_at cells q) (after_at q) ≡ d
          → (keep' ≡ take q keep₀ ++ (cond (k && not d) 1 0 ∷ (sweep_at (suc q)).keep)) × Holds row' (cond (k && not d) (live_before S.tables (cell_at cells q) (after_at q)) (after_at q))
      result false d ek ed =
          let c = v.off (rw same_kept ek) in
          let zero : get_or keep₀ q 0 ≡ 0 = elim (flag keep₀ g.keep_flags q) [ inl z ↦ z | inr z ↦ absurd (eqb-false (get_or keep₀ q 0) 1 ek z) ] in
          (c.0 ∙ split ∙ rw zero, rw c.1 after_holds)
      result true true ek ed =
          let c = v.gone (rw same_kept ek) (sym same_dead ∙ ed) in
          (c.0 ∙ rw split (set_at (take q keep₀) (get_or keep₀ q 0) (sweep_at (suc q)).keep 0 q front_less), λ t. c.1 t ∙ after_holds t)
      result true false ek ed =
          let c = v.on (rw same_kept ek) (sym same_dead ∙ ed) in
          (c.0 ∙ split ∙ rw (eqb-true (get_or keep₀ q 0) 1 ek), before_holds S.tables (cell_at cells q) S.locals (after_at q) row₁ row' after_wide (g.within q) after_holds c.1)

      pub sweep_turn : SweepFrom keep' row' q
      sweep_turn =
          let r = result (is_kept keep₀ q) (is_dead S (cell_at cells q) (after_at q)) refl refl in
          record { kept = r.0 ∙ rw (keep_at_lem q h); held = λ l. rw (before_at q h) r.1; broad = λ l. rw (before_at q h) (wide (stays q)) }
        where
          wide : (t : Bool) → length (cond t (live_before S.tables (cell_at cells q) (after_at q)) (after_at q)) ≡ S.locals
          wide true = before_long S.tables (cell_at cells q) (after_at q) ∙ after_wide
          wide false = after_wide

-- one place, by the word v of the code
module _ (S : Sections) (leaders keep₀ words metadata : List ℕ) (rows : List Row) (w : ℕ) (blocks live : List ℕ) (g : Grounds S leaders keep₀ (cells_by words metadata) rows w blocks live) where
  pub code_turn : (keep row row₁ keep' row' : List ℕ) (n p q v : ℕ) → length words ≡ n → get_or words q 0 ≡ v → p ≡ suc q → q < n → SweepFrom S leaders keep₀ (cells_by words metadata) rows keep row p
      → Entered (is_last (length leaders) leaders q) w live blocks n q (of_word v) row row₁
      → Swept S.tables (is_kept keep q) (dead_by S.types row₁ (of_word v)) (cell_of metadata q v) q keep keep' row₁ row'
      → SweepFrom S leaders keep₀ (cells_by words metadata) rows keep' row' q
  code_turn keep row row₁ keep' row' n p q v en ev e h s a b =
      let x : cell_at (cells_by words metadata) q ≡ cell_of metadata q v = cell_at_lem words metadata q (rw en h) ∙ rw ev in
      let long : length (cells_by words metadata) ≡ n = cells_long words metadata ∙ en in
      let both : length leaders ≡ n = g.long ∙ long in
      let a' : Entered (is_last n leaders q) w live blocks n q (of_word v) row row₁ = rw both at a in
      sweep_turn S leaders keep₀ (cells_by words metadata) rows w blocks live g keep row row₁ keep' row' q (rw long h) (rw e at s) (rw (x, long) a') (rw x b)

abbrev pub sections : ℕ → List ℕ → List ℕ → Tables → Sections
sections locals types constants T = record { locals = locals; types = types; constants = constants; tables = T }

-- ---- the places that stay are flags, one for each cell

bit_flags : (l : List ℕ) (t : Bool) (m : List ℕ) → l ≡ cond t 1 0 ∷ m → Flags m → Flags l
bit_flags l t m e f q = rw e (go t q)
  where
    go : (t : Bool) (q : ℕ) → get_or (cond t 1 0 ∷ m) q 0 ≤ 1
    go true zero = omega arith
    go false zero = omega arith
    go true (suc q) = f q
    go false (suc q) = f q

module _ (S : Sections) (leaders keep : List ℕ) (cells : List Cell) where
  module _ (rows : List Row) where
    pub sweep_flags : (p : ℕ) (xs : List Cell) → Flags (sweep_from S (length cells) leaders keep rows p xs).keep
    unfolding sweep_from
    sweep_flags p [] = λ q. omega arith
    sweep_flags p (x ∷ xs) =
        let r : dead.Swept = sweep_from S (length cells) leaders keep rows (suc p) xs in
        let a : Row = live_after S (length cells) leaders keep rows p x r.before in
        bit_flags _ (is_kept keep p && not (is_dead S x a)) r.keep (swept_keep S leaders keep cells rows x (is_kept keep p) a r) (sweep_flags (suc p) xs)

    pub sweep_long : (p : ℕ) (xs : List Cell) → length (sweep_from S (length cells) leaders keep rows p xs).keep ≡ length xs
    unfolding sweep_from
    sweep_long p [] = refl
    sweep_long p (x ∷ xs) = ap length (swept_keep S leaders keep cells rows x (is_kept keep p) _ (sweep_from S (length cells) leaders keep rows (suc p) xs)) ∙ ap suc (sweep_long (suc p) xs)

  pub dead_flags : Flags keep → Flags (dead_stores S leaders keep cells)
  unfolding dead_stores without_dead
  dead_flags f = go (live_rows S leaders keep cells)
    where
      go : (o : Option (List Row)) → Flags (without_dead S leaders keep cells o)
      go None = f
      go (Some rows) = sweep_flags rows 0 cells

  pub dead_long : length keep ≡ length cells → length (dead_stores S leaders keep cells) ≡ length cells
  unfolding dead_stores without_dead
  dead_long e = go (live_rows S leaders keep cells)
    where
      go : (o : Option (List Row)) → length (without_dead S leaders keep cells o) ≡ length cells
      go None = e
      go (Some rows) = sweep_long rows 0 cells

-- what `sweep` promises of the table's flags: they are what the definition's sweep makes of them; nothing else of the table changes
abbrev pub Sweeps : SetLayout → List ℕ → List ℕ → List ℕ → Tables → List ℕ → List ℕ → List ℕ → Type 0
Sweeps sets memory metadata types T table memory' table' =
    ((locals : ℕ) (constants : List ℕ) (rows : List Row)
    → Grounds (sections locals types constants T) (leaders_of sets.code table) (flags_of sets.code table) (cells_by (code_words sets memory) metadata) rows sets.width (blocks_of sets.code table) (live_of sets memory)
    → flags_of sets.code table'
    ≡ (sweep_from (sections locals types constants T) (length (cells_by (code_words sets memory) metadata)) (leaders_of sets.code table) (flags_of sets.code table) rows 0 (cells_by (code_words sets memory) metadata)).keep)
    × (table' ≡ put_mid (keep_at sets.code) sets.code table (flags_of sets.code table'))
    × (code_words sets memory' ≡ code_words sets memory)
