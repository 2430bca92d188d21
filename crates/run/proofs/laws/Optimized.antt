-- The places that the pass keeps meet the conditions of removal: with live slots, and without them where dead stores are skipped.
-- Assumes nothing.
use Rattle.std.specs.Prelude.{◌≡◌, Bool, List, eqb, length, get_or}
use Rattle.std.proofs.Math.Path.{refl, sym}
use Rattle.std.proofs.Common.{ap, ◌∙◌, true≢false, eqb-true, eq-eqb}
use Rattle.std.proofs.Math.Bool.{true, false, cond, or-true}
use Prim.Native.Nat.{ℕ, suc, ◌≤◌, ◌<◌}
use Rattle.std.proofs.Math.Nat.{zero-add}
use Rattle.std.proofs.Math.Decide.{dec_le}
use native.Mathlib.Omega.{arith}
use Rattle.std.proofs.Math.ListN.{get_or-eq_default}
use Rattle.words.specs.laws.Lists.{length_map_from, get_d_map_from}
use Rattle.instruction.specs.Opcode as op
use Rattle.instruction.specs.declared.Class.{Class}
use Rattle.instruction.specs.declared.Class.TheVariants.{Hint, LoadInt, LoadConst, Copy, CopyN, Unary, Binary, Jump, JumpIf, JumpIfNot, ForLoop, Return, Panic, Outside, Invalid}
use Rattle.instruction.specs.Class.{class_of}
use Rattle.instruction.specs.Instruction.{class}
use Rattle.instruction.specs.laws.ReadBack.{hint_class, jump_class}
use Rattle.unit.specs.Size.{max_instructions}
use Rattle.effects.specs.Shape.{Tables, Sections, Cell, cell_at, no_cell}
use Rattle.effects.specs.Effects.{all_reads, range_has, any_of}
use Rattle.effects.specs.Check.{operand_refusal}
use Rattle.effects.specs.laws.ByClass.{is_outside, writes_by_class}
use Rattle.flow.specs.Branch.{branches, target_by, target}
use Rattle.flow.specs.Loop.{reached_places, anchors, is_plain_hint}
use Rattle.flow.specs.laws.Marks.{Marked}
use Rattle.flow.specs.laws.Flags.{Flags}
use Rattle.flow.specs.laws.Reached.{places_flags, places_zero, places_next, places_target}
use Rattle.pc_map.specs.Boundary.{is_kept, boundary}
use Rattle.pc_map.specs.laws.Boundaries.{boundary_kept}
use Rattle.pc_map.specs.Relocate.{relocate, relocate_by}
use Rattle.pc_map.specs.laws.Moved.{target_moves}
use Rattle.liveness.specs.Live.{is_last}
use Rattle.answer.specs.Jump.{jump_rounds}
use Rattle.answer.specs.Pass.{useful_places}
use Rattle.run.specs.Machine.{World}
use Rattle.run.specs.Program.{Function, given_ranges, slots_of, program_of}
use Rattle.run.specs.laws.Frame.{In}
use Rattle.run.specs.laws.Gives.{given_by_class}
use Rattle.words.specs.laws.Truth.{left_true}
use Rattle.run.specs.laws.Invariant.{Invariant}
use Rattle.run.specs.laws.Runnable.{Runnable}
use Rattle.run.specs.laws.Step.{Succ, next, branch}
use Rattle.run.proofs.laws.Step.{closed_invariant}
use Rattle.run.proofs.laws.RelocatedRun.{relocated_op}
use Rattle.run.specs.laws.Jumps.{Skips, rounds_long, rounds_flags, rounds_why}
use Rattle.run.specs.laws.Removed.{passes, Dropped, store, skip, Removable}

-- ---- what is useful: a flag for each cell

module _ (marks : List ℕ) (cells : List Cell) where
  pub useful_long : length (useful_places marks cells) ≡ length cells
  unfolding useful_places
  useful_long = length_map_from _ 0 cells

  pub useful_at : (p : ℕ) → p < length cells → get_or (useful_places marks cells) p 0 ≡ cond (is_plain_hint (cell_at cells p).instruction) 0 (get_or marks p 0)
  unfolding useful_places
  useful_at p h = get_d_map_from (λ p x. cond (is_plain_hint x.instruction) 0 (get_or marks p 0)) 0 cells p no_cell 0 h ∙ rw zero-add

  pub useful_flags : Flags marks → Flags (useful_places marks cells)
  useful_flags f p = elim (dec_le (length cells) p) [
    | yes h ↦ (let l : length (useful_places marks cells) ≤ p = rw useful_long h in rw (get_or-eq_default (useful_places marks cells) 0 l) (omega arith))
    | no h ↦ rw (useful_at p (omega arith)) (go (is_plain_hint (cell_at cells p).instruction))
  ]
    where
      go : (t : Bool) → cond t 0 (get_or marks p 0) ≤ 1
      go true = omega arith
      go false = f p

-- What is asked of the code that is removed from, and of the blocks of the code that it was made of.
pub record Removing (G : Function) (leaders : List ℕ) : Type 0 where
  pub some_code : 0 < length G.cells
  pub few : length G.cells ≤ 65536
  pub described : length G.cells ≤ G.described
  pub operands : (p : ℕ) → p < length G.cells → operand_refusal G.sections.locals G.sections.tables (cell_at G.cells p) ≡ 0
  pub long : length leaders ≡ length G.cells
  pub flags : Flags leaders
  pub one : Marked leaders 0
  -- a branch goes to the start of a block inside, and the place after it starts one
  pub targets : (p : ℕ) → p < length G.cells → branches (class (cell_at G.cells p).instruction) ≡ true
      → Marked leaders (target p (cell_at G.cells p).instruction) × (target p (cell_at G.cells p).instruction < length G.cells)
  pub nexts : (p : ℕ) → suc p < length G.cells → branches (class (cell_at G.cells p).instruction) ≡ true → Marked leaders (suc p)

module _ (G : Function) (leaders : List ℕ) (N : Removing G leaders) where
  abbrev code : List Cell
  code = G.cells

  abbrev n : ℕ
  n = length code

  abbrev cell : ℕ → Cell
  cell p = cell_at code p

  abbrev S : Sections
  S = G.sections

  abbrev T : Tables
  T = G.sections.tables

  abbrev marks : List ℕ
  marks = reached_places code

  abbrev useful : List ℕ
  useful = useful_places marks code

  -- the places that matter: the reached ones, and the end
  abbrev Reach : ℕ → Type 0
  Reach p = (p ≤ n) × (p < n → Marked marks p)

  -- a reached place that is not useful is a plain hint
  pub not_useful : (p : ℕ) → p < n → Marked marks p → is_kept useful p ≡ false → is_plain_hint (cell p).instruction ≡ true
  not_useful p h m e = go (is_plain_hint (cell p).instruction) refl (rw (useful_at marks code p h) at e)
    where
      go : (t : Bool) → is_plain_hint (cell p).instruction ≡ t → eqb (cond t 0 (get_or marks p 0)) 1 ≡ false → is_plain_hint (cell p).instruction ≡ true
      go true q r = q
      go false q r = absurd (true≢false (sym (eq-eqb (get_or marks p 0) 1 m) ∙ r))

  pub plain_class : (p : ℕ) → is_plain_hint (cell p).instruction ≡ true → class (cell p).instruction ≡ Hint
  plain_class p e = hint_class (cell p).instruction (eqb-true _ _ (left_true (eqb (cell p).instruction.op op.Hint) (eqb (cell p).instruction.flags 0) e))

  -- a hint gives no slot a word
  pub hint_gives : (p s : ℕ) → class (cell p).instruction ≡ Hint → any_of (range_has s) (given_ranges T (cell p)) ≡ false
  unfolding is_outside writes_by_class any_of
  hint_gives p s k = rw (given_by_class T (cell p) (rw k refl), k)

  -- ---- where control goes

  branching : (p : ℕ) → p < n → (k : Class) → class (cell p).instruction ≡ k → branches k ≡ true → target_by k p (cell p).instruction < n
  branching p h k e b =
      let f : branches (class (cell p).instruction) ≡ true = rw e b in
      let l : target p (cell p).instruction < n = (N.targets p h f).1 in
      rw e at l

  target_le : (p : ℕ) → p < n → target p (cell p).instruction ≤ n
  unfolding branches target_by
  target_le p h = go (class (cell p).instruction) refl
    where
      less : {q : ℕ} → q < n → q ≤ n
      less l = omega arith

      go : (k : Class) → class (cell p).instruction ≡ k → target_by k p (cell p).instruction ≤ n
      go Hint e = h
      go LoadInt e = h
      go LoadConst e = h
      go Copy e = h
      go CopyN e = h
      go Unary e = h
      go Binary e = h
      go Jump e = less (branching p h Jump e refl)
      go JumpIf e = less (branching p h JumpIf e refl)
      go JumpIfNot e = less (branching p h JumpIfNot e refl)
      go ForLoop e = less (branching p h ForLoop e refl)
      go Return e = h
      go Panic e = h
      go Outside e = h
      go Invalid e = h

  onward : (p : ℕ) → p < n → Reach p → (q : ℕ) → Succ (class (cell p).instruction) p (cell p).instruction q → Reach q
  onward p h r q (next f) = (h, λ l. places_next code p h (r.1 h) f l)
  onward p h r q (branch f) = (target_le p h, λ l. places_target code p h (r.1 h) f l)

  runnable : Runnable G
  runnable = record { described = N.described; operands = N.operands; targets = λ p h b. target_le p h }

  -- no step leaves the places that matter
  pub reach_invariant : (W : World) → Invariant W (program_of G W) (λ p σ. Reach p)
  reach_invariant = closed_invariant G Reach runnable (omega arith, λ h. places_zero code N.some_code) onward

  -- a block's inner places do not branch
  pub inner : (p : ℕ) → p < n → is_last n leaders p ≡ false → branches (class (cell p).instruction) ≡ false
  inner p h e = go (branches (class (cell p).instruction)) refl
    where
      next_marked : branches (class (cell p).instruction) ≡ true → is_last n leaders p ≡ true
      next_marked b = elim (dec_le n (suc p)) [
        | yes l ↦ rw (eq-eqb (suc p) n (omega arith)) refl
        | no l ↦ rw (eq-eqb (get_or leaders (suc p) 0) 1 (N.nexts p (omega arith) b)) (or-true (eqb (suc p) n))
      ]

      go : (t : Bool) → branches (class (cell p).instruction) ≡ t → branches (class (cell p).instruction) ≡ false
      go true b = absurd (true≢false (sym (next_marked b) ∙ e))
      go false b = b

  -- ---- kept places after the jump rounds

  module _ (keep : List ℕ) (b : Flags keep) (l : length keep ≡ n) where
    abbrev final : List ℕ
    final = jump_rounds 16 (anchors marks code) code keep

    final_flags : Flags final
    final_flags = rounds_flags (anchors marks code) code 16 keep b

    final_long : n ≡ length final
    final_long = sym (rounds_long (anchors marks code) code 16 keep l)

    -- a kept place goes where its target goes
    moved : (p : ℕ) → p < n → is_kept final p ≡ true
        → target_by (class (cell p).instruction) (boundary final p) (relocate final p (cell p)).instruction ≡ boundary final (target p (cell p).instruction)
    unfolding branches target_by
    moved p h e = go (class (cell p).instruction) refl
      where
        stays : suc (boundary final p) ≡ boundary final (suc p)
        stays = sym (boundary_kept final p (rw (← final_long) h) e)

        same : class (relocate final p (cell p)).instruction ≡ class (cell p).instruction
        same = ap class_of (relocated_op final p (cell p) (class (cell p).instruction))

        goes : (k : Class) → class (cell p).instruction ≡ k → branches k ≡ true
            → target_by k (boundary final p) (relocate_by final k p (cell p)).instruction ≡ boundary final (target_by k p (cell p).instruction)
        goes k c br =
            let small : length final ≤ max_instructions = let f = N.few in let q = final_long in omega arith in
            let inside : target p (cell p).instruction ≤ length final = rw (← final_long) (target_le p h) in
            let m = target_moves final final_flags small p (rw (← final_long) h) (cell p) e (rw c br) inside in
            let m' : target_by (class (cell p).instruction) (boundary final p) (relocate final p (cell p)).instruction ≡ boundary final (target p (cell p).instruction) =
            ap (λ (k : Class). target_by k (boundary final p) (relocate final p (cell p)).instruction) (sym same) ∙ m in
            rw c at m'

        go : (k : Class) → class (cell p).instruction ≡ k
            → target_by k (boundary final p) (relocate_by final k p (cell p)).instruction ≡ boundary final (target_by k p (cell p).instruction)
        go Hint c = stays
        go LoadInt c = stays
        go LoadConst c = stays
        go Copy c = stays
        go CopyN c = stays
        go Unary c = stays
        go Binary c = stays
        go Jump c = goes Jump c refl
        go JumpIf c = goes JumpIf c refl
        go JumpIfNot c = goes JumpIfNot c refl
        go ForLoop c = goes ForLoop c refl
        go Return c = stays
        go Panic c = stays
        go Outside c = stays
        go Invalid c = stays

    -- a place that the rounds dropped
    pub skipped : (live : ℕ → ℕ → Type 0) (p : ℕ) → p < n → is_kept keep p ≡ true → is_kept final p ≡ false
        → ((s : ℕ) → class (cell p).instruction ≡ Jump → live (target p (cell p).instruction) s → live p s) → Dropped G final Reach live p
    skipped live p h k e l+ =
        let w : Skips (anchors marks code) code final p = rounds_why (anchors marks code) code 16 keep b l p h (target_le p h) k e in
        let c : class (cell p).instruction ≡ Jump = jump_class (cell p).instruction w.0 in
        let t : target p (cell p).instruction ≡ target_by Jump p (cell p).instruction = ap (λ (k : Class). target_by k p (cell p).instruction) c in
        skip c (rw t at w.1) (rw t at w.2) (λ s v. l+ s c (rw t v))

    -- What does not hang on which slots are live.
    module _ (live : ℕ → ℕ → Type 0)
        (reads : (p : ℕ) → p < n → Reach p → is_kept final p ≡ true → (s : ℕ) → In s (slots_of (all_reads T (cell p))) → live p s)
        (flows : (p : ℕ) → p < n → Reach p → is_kept final p ≡ true → (q : ℕ) → Succ (class (cell p).instruction) p (cell p).instruction q
        → (s : ℕ) → live q s → any_of (range_has s) (given_ranges T (cell p)) ≡ false → live p s)
        (drops : (p : ℕ) → p < n → Reach p → is_kept final p ≡ false → Dropped G final Reach live p) where
      pub removable : Removable G final Reach live
      removable = record {
        runs = runnable;
        flags = final_flags;
        long = final_long;
        moved = moved;
        within = λ p r. r.0;
        reads = reads;
        flows = flows;
        drops = drops;
      }

  -- ---- where dead stores are skipped, every slot counts as live

  plain_flags : Flags useful
  plain_flags = useful_flags marks code (places_flags code)

  plain_long : length useful ≡ n
  plain_long = useful_long marks code

  abbrev All : ℕ → ℕ → Type 0
  All p s = Unit {0}

  dropped_plain : (p : ℕ) → p < n → Reach p → is_kept (final useful plain_flags plain_long) p ≡ false → Dropped G (final useful plain_flags plain_long) Reach All p
  unfolding passes
  dropped_plain p h r e = go (is_kept useful p) refl
    where
      go : (t : Bool) → is_kept useful p ≡ t → Dropped G (final useful plain_flags plain_long) Reach All p
      go true k = skipped useful plain_flags plain_long All p h k e (λ s c v. tt)
      go false k =
          let c : class (cell p).instruction ≡ Hint = plain_class p (not_useful p h (r.1 h) k) in
          store (rw c refl) (λ s v. tt) (λ s v. hint_gives p s c)

  pub plain_removable : Removable G (jump_rounds 16 (anchors marks code) code useful) Reach All
  plain_removable = removable useful plain_flags plain_long All (λ p h r k s i. tt) (λ p h r k q g s v w. tt) dropped_plain
