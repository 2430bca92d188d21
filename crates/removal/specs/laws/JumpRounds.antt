-- The loops of the jump rounds: what a round and all of them leave in lent memory.
-- Assumes nothing.
use Rattle.std.specs.Prelude.{◌≡◌, ◌⊎◌, Bool, true, false, cond, ◌&&◌, not, eqb, get_or, set}
use Rattle.std.proofs.Math.Path.{refl, ap}
use Rattle.std.proofs.Common.{sym, ◌∙◌, inl, inr, true≢false, zero-add, add-one, eqb-true}
use mathlib.Core.List.{List, [], ◌++◌}
use Prim.Native.Nat.{ℕ, zero, suc, ◌+◌, ◌*◌, ◌-◌, ◌≤◌, ◌<◌}
use native.Mathlib.Omega.{arith}
use Rattle.std.proofs.Math.ListN.{length, get_or-eq_default}
use Rattle.std.proofs.lemmas.Bool.{eqb-false}
use borrow.Rule.Slice.PartMut.{put_mid, mid_of}
use Rattle.words.specs.Lists.{tabulate}
use Rattle.words.specs.laws.Only.{At, Only, only_none, only_put, only_both, put_only, same_mid}
use Rattle.words.specs.laws.Regions.{mid_long, get_mid, mid_put, put_long, put_put}
use Rattle.instruction.specs.declared.Instruction.{Instruction}
use Rattle.instruction.specs.Instruction.{class, of_word}
use Rattle.instruction.specs.laws.ReadBack.{jump_class}
use Rattle.instruction.specs.Opcode as op
use Rattle.unit.specs.laws.Region.{loop_ends_in}
use Rattle.effects.specs.Shape.{Cell}
use Rattle.effects.specs.laws.Cells.{cell_of, cells_by, cells_long}
use Rattle.flow.specs.Branch.{branches, target, branch_inside}
use Rattle.flow.specs.laws.BranchLaws.{BranchesInside, inside_target}
use Rattle.flow.specs.laws.Control.{Controls, is_control, no_jump, same_default, control_inside, skip_first, skip_next}
use Rattle.flow.specs.laws.Flags.{Flags}
use Rattle.pc_map.specs.Boundary.{is_kept, boundary}
use Rattle.answer.specs.Jump.{is_idle, drop_idle, jump_rounds}
use Rattle.run.specs.laws.Jumps.{round_long, round_flags, rounds_long, rounds_flags}
use Rattle.removal.specs.laws.Jumping as jumping
use Rattle.removal.specs.laws.Jumping.{Rounds, ends_in, map_of, idle_in}
use Rattle.removal.specs.laws.Next.{kept_from, next_kept, from_end, from_kept, from_dropped, near_next}
use Rattle.removal.specs.laws.Cleared.{Cleared, Step, step_on, step_off, cleared_none, cleared_down, cleared_cells, cleared_only}

-- ---- the test of a jump

-- a jump stays inside
pub jump_inside : (words : List ℕ) → BranchesInside words → (p : ℕ) → p < length words → (i : Instruction) → i ≡ of_word (get_or words p 0) → i.op ≡ op.Jump
    → (t : ℕ) → t ≡ target p i → t < length words
unfolding branches
jump_inside words f p h i same e t g =
    rw g (inside_target (length words) p i (ap (branch_inside (length words) p) same ∙ f p h) (rw (jump_class i e) refl))

-- where the target lies matters of a kept jump alone
same_near : (kept free jump near near' : Bool) → (kept ≡ true → jump ≡ true → near ≡ near') → cond (kept && free && jump) near false ≡ cond (kept && free && jump) near' false
same_near true true true near near' f = f refl refl
same_near true true false near near' f = refl
same_near true false jump near near' f = refl
same_near false free jump near near' f = refl

-- the kept places, when the round begins
abbrev pub keep_in : List ℕ → List ℕ → List ℕ
keep_in words work = mid_of 0 (length words) work

-- the test at place p, as of then
abbrev pub idle_at : List ℕ → List ℕ → ℕ → Bool
idle_at words work p = idle_in (length words) work (eqb (get_or work p 0) 1) (next_kept (keep_in words work) p) p (of_word (get_or words p 0))

module _ (words work : List ℕ) (r : Rounds words (length work)) where
  keep_size : length (keep_in words work) ≡ length words
  keep_size = mid_long work 0 (length words) (omega (arith, r.long))

  keep_at_lem : (p : ℕ) → p < length words → get_or (keep_in words work) p 0 ≡ get_or work p 0
  keep_at_lem p h = get_mid work 0 (length words) p 0 h ∙ ap (λ (q : ℕ). get_or work q 0) (zero-add p)

  module _ (f : Flags (keep_in words work)) where
    idle_at_lem : (metadata : List ℕ) (p : ℕ) → p < length words → is_idle (ends_in (length words) work) (keep_in words work) p (cell_of metadata p (get_or words p 0)) ≡ idle_at words work p
    unfolding is_idle
    idle_at_lem metadata p h =
        let i = of_word (get_or words p 0) in
        rw (← keep_at_lem p h, get_mid work (loop_ends_in (length words)) (length words) p 0 h)
        (same_near (is_kept (keep_in words work) p) (not (eqb (get_or work (loop_ends_in (length words) + p) 0) 1)) _ _ _
        (λ kept jump.
        let inside = jump_inside words r.inside p h i refl (eqb-true _ _ jump) (target p i) refl in
        near_next (keep_in words work) f p (target p i) (rw keep_size h) kept (omega (arith, keep_size, inside))))

    pub idle_dropped : (metadata work' : List ℕ) → Cleared (idle_at words work) work work' 0 (length words)
        → work' ≡ put_mid 0 (length words) work (drop_idle (ends_in (length words) work) (cells_by words metadata) (keep_in words work))
    unfolding drop_idle
    idle_dropped metadata work' c =
        let room : length words ≤ length work = omega (arith, r.long) in
        put_only 0 (length words) work work' (cleared_only (idle_at words work) work work' (length words) c) (omega arith)
        ∙ ap (put_mid 0 (length words) work)
        (cleared_cells (idle_at words work) work words metadata (λ p x. is_idle (ends_in (length words) work) (keep_in words work) p x) (idle_at_lem metadata) work' room c)

-- ---- a round, from the back

-- a loop over the control places from the back: what holds at p + 1 holds at p, if that is none
module _ {words list : List ℕ} {n : ℕ} (c : Controls words list n) (P : ℕ → Type 0)
    (step : (p : ℕ) → p < n → is_control (class (of_word (get_or words p 0))) ≡ false → P (p + 1) → P p) where
  back_next : (k : ℕ) → k < length list → P (get_or list (k + 1) n) → P (get_or list k 0 + 1)
  back_next k h = skip_next c (λ q. P q → P (get_or list k 0 + 1)) (λ p l e f x. f (step p l e x)) k h (λ x. x)

  back_first : P (get_or list 0 n) → P 0
  back_first = skip_first c (λ q. P q → P 0) (λ p l e f x. f (step p l e x)) (λ x. x)

-- what one place does: an idle jump's flag is cleared, and a kept place is the next
abbrev pub Drops : Bool → ℕ → List ℕ → Bool → List ℕ → Bool → Type 0
Drops idle p work dropped work' dropped' = ((idle ≡ true) × (work' ≡ set work p 0) × (dropped' ≡ true)) ⊎ ((idle ≡ false) × (work' ≡ work) × (dropped' ≡ dropped))

abbrev pub Takes : Bool → ℕ → ℕ → ℕ → Type 0
Takes kept p next next' = ((kept ≡ true) × (next' ≡ p)) ⊎ ((kept ≡ false) × (next' ≡ next))

-- The listed places from the k-th on are done, and all others from `end` on; `next` is the lowest that was kept from there on.
pub record Walked (words list work₀ work : List ℕ) (dropped : Bool) (next end k : ℕ) : Type 0 where
  pub listed : k ≤ length list
  pub place : end ≡ get_or list k (length words)
  pub most : end ≤ length words
  pub lowest : next ≡ kept_from (keep_in words work₀) end
  pub cleared : Cleared (idle_at words work₀) work₀ work end (length words)
  pub same : dropped ≡ false → work ≡ work₀

module _ {words list work₀ : List ℕ} (r : Rounds words (length work₀)) (c : Controls words list (length words)) where
  pub walk_begin : Walked words list work₀ work₀ false (length words) (length words) (length list)
  walk_begin = record {
    listed = omega arith;
    place = sym (get_or-eq_default list (length words) {n = length list} (omega arith));
    most = omega arith;
    lowest = sym (ap (kept_from (keep_in words work₀)) (sym (keep_size words work₀ r)) ∙ from_end (keep_in words work₀) ∙ keep_size words work₀ r);
    cleared = cleared_none _ work₀ (length words);
    same = λ e. refl;
  }

  -- what is no control place is no jump
  none_idle : (work : List ℕ) (p : ℕ) → p < length words → is_control (class (of_word (get_or words p 0))) ≡ false
      → Cleared (idle_at words work₀) work₀ work (p + 1) (length words) → Cleared (idle_at words work₀) work₀ work p (length words)
  none_idle work p h e d =
      let i = of_word (get_or words p 0) in
      cleared_down d h (step_off p (d.rest p (λ a b. omega arith)) (sym (jumping.no_jump (length words) work₀ (eqb (get_or work₀ p 0) 1) (next_kept (keep_in words work₀) p) p i i refl (eqb-false i.op op.Jump (no_jump i e)))))

  module _ {work : List ℕ} {dropped : Bool} {next end k : ℕ} (w : Walked words list work₀ work dropped next end k) where
    pub walk_asks : Rounds words (length work)
    walk_asks = record { few = r.few; long = rw w.cleared.long r.long; inside = r.inside }

    -- the flags below are as they were
    pub walk_flags : (q : ℕ) → q < end → get_or work q 0 ≡ get_or (keep_in words work₀) q 0
    walk_flags q h = w.cleared.rest q (λ a b. omega arith) ∙ sym (keep_at_lem words work₀ r q (omega (arith, w.most)))

    pub walk_end : k ≡ 0 → Cleared (idle_at words work₀) work₀ work 0 (length words)
    walk_end z =
        let at : get_or list 0 (length words) ≡ end = ap (λ (j : ℕ). get_or list j (length words)) (sym z) ∙ sym w.place in
        back_first c (λ q. Cleared (idle_at words work₀) work₀ work q (length words)) (none_idle work) (rw at w.cleared)

    -- the control place before `end`
    module _ (h : 0 < k) where
      abbrev p : ℕ
      p = get_or list (k - 1) 0

      few : k - 1 < length list
      few = omega (arith, w.listed)

      pub walk_inside : p < length words
      walk_inside = control_inside c (k - 1) few

      last : get_or list (k - 1 + 1) (length words) ≡ end
      last = let e : k - 1 + 1 ≡ k = omega arith in rw e (sym w.place)

      pub walk_below : p < end
      walk_below =
          let s : get_or list (suc (k - 1)) (length words) ≡ end = rw (← add-one (k - 1)) last in
          omega (arith, c.rising (k - 1) few, same_default list (k - 1) 0 (length words) few, s)

      -- the lowest place above it that was kept, by what a search of the flags answers
      pub walk_found : {m : ℕ} → ((keep : List ℕ) → ((q : ℕ) → q < end → get_or work q 0 ≡ get_or keep q 0) → next ≡ kept_from keep end → m ≡ kept_from keep (p + 1))
          → m ≡ next_kept (keep_in words work₀) p
      walk_found f = f (keep_in words work₀) walk_flags w.lowest ∙ rw add-one refl

      before : Cleared (idle_at words work₀) work₀ work (p + 1) (length words)
      before = back_next c (λ q. Cleared (idle_at words work₀) work₀ work q (length words)) (none_idle work) (k - 1) few (rw last w.cleared)

      module _ (next' : ℕ) (is : next' ≡ next_kept (keep_in words work₀) p) where
        abbrev kept : Bool
        kept = eqb (get_or work p 0) 1

        was : kept ≡ is_kept (keep_in words work₀) p
        was = ap (λ (v : ℕ). eqb v 1) (walk_flags p walk_below)

        test : idle_in (length words) work kept next' p (of_word (get_or words p 0)) ≡ idle_at words work₀ p
        test = rw (is, before.rest p (λ a b. omega arith), before.rest (loop_ends_in (length words) + p) (λ a b. omega arith)) refl

        -- it is done
        pub walk_on : (idle : Bool) (work' : List ℕ) (dropped' : Bool) (next'' : ℕ) → idle ≡ idle_in (length words) work kept next' p (of_word (get_or words p 0))
            → Drops idle p work dropped work' dropped' → Takes kept p next' next'' → Walked words list work₀ work' dropped' next'' p (k - 1)
        walk_on idle work' dropped' next'' e f g = record {
          listed = omega (arith, few);
          place = same_default list (k - 1) 0 (length words) few;
          most = omega (arith, walk_inside);
          lowest = lowest g;
          cleared = cleared_down before walk_inside (step f);
          same = same f;
        }
          where
            lowest : Takes kept p next' next'' → next'' ≡ kept_from (keep_in words work₀) p
            lowest (inl y) = y.1 ∙ sym (from_kept (keep_in words work₀) p (sym was ∙ y.0))
            lowest (inr n) = n.1 ∙ is ∙ sym (from_dropped (keep_in words work₀) p (sym was ∙ n.0))

            step : Drops idle p work dropped work' dropped' → Step (idle_at words work₀) work₀ work work' p
            step (inl y) = rw y.1 (step_on p (omega (arith, walk_inside, before.long, r.long)) (sym test ∙ sym e ∙ y.0))
            step (inr n) = rw n.1 (step_off p (before.rest p (λ a b. omega arith)) (sym test ∙ sym e ∙ n.0))

            same : Drops idle p work dropped work' dropped' → dropped' ≡ false → work' ≡ work₀
            same (inl y) z = absurd (true≢false (sym y.2 ∙ z))
            same (inr n) z = n.1 ∙ w.same (sym n.2 ∙ z)

-- ---- all rounds

module _ (ends : List ℕ) (cells : List Cell) where
  -- a round that drops nothing is the last
  pub rounds_same : (k : ℕ) (keep : List ℕ) → drop_idle ends cells keep ≡ keep → jump_rounds k ends cells keep ≡ keep
  unfolding jump_rounds
  rounds_same zero keep e = refl
  rounds_same (suc k) keep e = ap (jump_rounds k ends cells) e ∙ rounds_same k keep e

-- what is left of the rounds, applied to what is there, is the answer
pub record Rounding (words work₀ work : List ℕ) (k : ℕ) : Type 0 where
  pub only : Only (At 0 (length words)) work₀ work
  pub flags : Flags (keep_in words work)
  pub answer : (metadata : List ℕ)
      → jump_rounds k (ends_in (length words) work₀) (cells_by words metadata) (keep_in words work)
      ≡ jump_rounds 16 (ends_in (length words) work₀) (cells_by words metadata) (keep_in words work₀)

pub rounding_begin : (words work : List ℕ) → Flags (keep_in words work) → Rounding words work work 16
rounding_begin words work f = record { only = only_none _ work; flags = f; answer = λ metadata. refl }

module _ (words work₀ work : List ℕ) (k : ℕ) (r : Rounds words (length work₀)) (d : Rounding words work₀ work k) where
  abbrev next : List ℕ → List ℕ
  next metadata = drop_idle (ends_in (length words) work) (cells_by words metadata) (keep_in words work)

  pub rounding_asks : Rounds words (length work)
  rounding_asks = record { few = r.few; long = rw d.only.long r.long; inside = r.inside }

  fits : 0 + length words ≤ length work
  fits = omega (arith, rounding_asks.long)

  same_ends : ends_in (length words) work ≡ ends_in (length words) work₀
  same_ends = same_mid (At 0 (length words)) work₀ work d.only (loop_ends_in (length words)) (length words) (omega (arith, r.long)) (λ j a b. omega (arith, a.0, b.1))

  long : (metadata : List ℕ) → length (next metadata) ≡ length words
  long metadata = round_long (ends_in (length words) work) (cells_by words metadata) (keep_in words work) ∙ cells_long words metadata

  turned : (work' metadata : List ℕ) → work' ≡ put_mid 0 (length words) work (next metadata) → keep_in words work' ≡ next metadata
  turned work' metadata e = ap (keep_in words) e ∙ mid_put work 0 (length words) (next metadata) (long metadata) fits

  -- one round is done
  pub rounding_turn : (work' : List ℕ) → ((metadata : List ℕ) → work' ≡ put_mid 0 (length words) work (next metadata)) → 0 < k → Rounding words work₀ work' (k - 1)
  unfolding jump_rounds
  rounding_turn work' f h =
      let one : k ≡ suc (k - 1) = omega arith in
      record {
        only = only_both (At 0 (length words)) work₀ work work' d.only (rw (f []) (only_put work 0 (length words) fits (next []) (long [])));
        flags = rw (turned work' [] (f [])) (round_flags (ends_in (length words) work) (cells_by words []) (keep_in words work) d.flags);
        answer = λ metadata.
            ap (jump_rounds (k - 1) (ends_in (length words) work₀) (cells_by words metadata)) (turned work' metadata (f metadata) ∙ ap (λ (l : List ℕ). drop_idle l (cells_by words metadata) (keep_in words work)) same_ends)
            ∙ ap (λ (j : ℕ). jump_rounds j (ends_in (length words) work₀) (cells_by words metadata) (keep_in words work)) (sym one)
            ∙ d.answer metadata;
      }

  abbrev Answered : List ℕ → List ℕ → Type 0
  Answered metadata work' = work' ≡ put_mid 0 (length words) work₀ (jump_rounds 16 (ends_in (length words) work₀) (cells_by words metadata) (keep_in words work₀))

  -- nothing is left to do
  closed : (metadata : List ℕ) → jump_rounds k (ends_in (length words) work₀) (cells_by words metadata) (keep_in words work) ≡ keep_in words work → Answered metadata work
  closed metadata s = put_only 0 (length words) work₀ work d.only (omega (arith, r.long)) ∙ ap (put_mid 0 (length words) work₀) (sym s ∙ d.answer metadata)

  -- a round that drops nothing
  pub rounding_last : (metadata work' : List ℕ) → work' ≡ put_mid 0 (length words) work (next metadata) → work' ≡ work → Answered metadata work'
  rounding_last metadata work' f g =
      let stays : next metadata ≡ keep_in words work = sym (turned work' metadata f) ∙ ap (keep_in words) g in
      g ∙ closed metadata (rounds_same (ends_in (length words) work₀) (cells_by words metadata) k (keep_in words work) (ap (λ (l : List ℕ). drop_idle l (cells_by words metadata) (keep_in words work)) (sym same_ends) ∙ stays))

  -- all 16
  pub rounding_end : (metadata : List ℕ) → k ≡ 0 → Answered metadata work
  unfolding jump_rounds
  rounding_end metadata z = closed metadata (rw z refl)

-- ---- and the map of what is kept then
module _ (words work work' : List ℕ) (r : Rounds words (length work)) (f : Flags (keep_in words work))
    (e : (metadata : List ℕ) → work' ≡ put_mid 0 (length words) work (jump_rounds 16 (ends_in (length words) work) (cells_by words metadata) (keep_in words work))) where
  abbrev left : List ℕ → List ℕ
  left metadata = jump_rounds 16 (ends_in (length words) work) (cells_by words metadata) (keep_in words work)

  room : 0 + length words ≤ length work
  room = omega (arith, r.long)

  left_long : (metadata : List ℕ) → length (left metadata) ≡ length words
  left_long metadata =
      rounds_long (ends_in (length words) work) (cells_by words metadata) 16 (keep_in words work) (keep_size words work r ∙ sym (cells_long words metadata)) ∙ cells_long words metadata

  left_kept : (metadata : List ℕ) → keep_in words work' ≡ left metadata
  left_kept metadata = ap (keep_in words) (e metadata) ∙ mid_put work 0 (length words) (left metadata) (left_long metadata) room

  pub map_asks : Flags (keep_in words work') × (2 * length words + 1 ≤ length work')
  map_asks =
      let long : length work' ≡ length work = ap length (e []) ∙ put_long work 0 (length words) (left []) (left_long []) room in
      (rw (left_kept []) (rounds_flags (ends_in (length words) work) (cells_by words []) 16 (keep_in words work) f), omega (arith, long, r.long))

  pub map_made : (metadata keep work'' : List ℕ) → keep ≡ left metadata → work'' ≡ put_mid (length words) (length words + 1) work' (tabulate (length words + 1) (boundary (keep_in words work')))
      → work'' ≡ put_mid 0 (loop_ends_in (length words)) work (keep ++ map_of keep)
  map_made metadata keep work'' g s =
      let map : tabulate (length words + 1) (boundary (keep_in words work')) ≡ map_of (left metadata) = rw (left_kept metadata, left_long metadata) refl in
      let both : length words + (length words + 1) ≡ loop_ends_in (length words) = omega arith in
      s
      ∙ rw (map, e metadata) refl
      ∙ ap (λ (a : ℕ). put_mid a (length words + 1) (put_mid 0 (length words) work (left metadata)) (map_of (left metadata))) (sym (zero-add (length words)))
      ∙ put_put work 0 (length words) (left metadata) (left_long metadata) room (length words + 1) (map_of (left metadata))
      ∙ rw (both, g) refl
