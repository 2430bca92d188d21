-- The jump rounds: each dropped jump passes over nothing that is kept, to the end.
-- Assumes nothing.
use Rattle.std.specs.Prelude.{◌≡◌, Bool, not, ◌&&◌, List, get_or}
use Rattle.std.proofs.Math.Path.{refl}
use Rattle.std.proofs.Common.{sym, ◌∙◌, add-zero, add-suc, arith}
use Rattle.std.proofs.Math.Bool.{true, false, cond}
use Rattle.std.proofs.lemmas.Bool.{false≢true}
use Prim.Native.Nat.{ℕ, zero, suc, ◌+◌, ◌-◌, ◌≤◌, ◌<◌}
use Rattle.std.proofs.Math.Nat.{zero-add}
use Rattle.std.proofs.Math.Decide.{dec_le}
use Rattle.std.proofs.Math.Dec.{eqb}
use Rattle.std.proofs.Math.ListN.{length, get_or-eq_default}
use borrow.Author.Tests.{eqb-true}
use Rattle.words.specs.laws.Lists.{length_map_from, get_d_map_from}
use Rattle.instruction.specs.Opcode as op
use Rattle.effects.specs.Shape.{Cell, cell_at, no_cell}
use Rattle.flow.specs.Branch.{target}
use Rattle.flow.specs.laws.Flags.{Flags}
use Rattle.pc_map.specs.Boundary.{is_kept, boundary}
use Rattle.pc_map.specs.laws.Boundaries.{boundary_kept, boundary_dropped, boundary_mono}
use Rattle.answer.specs.Jump.{is_idle, drop_idle, jump_rounds}

module _ (anchors : List ℕ) (cells : List Cell) where
  -- ---- a round

  pub round_long : (keep : List ℕ) → length (drop_idle anchors cells keep) ≡ length cells
  unfolding drop_idle
  round_long keep = length_map_from _ 0 cells

  round_at : (keep : List ℕ) (p : ℕ) → p < length cells → get_or (drop_idle anchors cells keep) p 0 ≡ cond (is_idle anchors keep p (cell_at cells p)) 0 (get_or keep p 0)
  unfolding drop_idle
  round_at keep p h = get_d_map_from (λ p x. cond (is_idle anchors keep p x) 0 (get_or keep p 0)) 0 cells p no_cell 0 h ∙ rw zero-add

  past : (keep : List ℕ) (p : ℕ) → length cells ≤ p → get_or (drop_idle anchors cells keep) p 0 ≡ 0
  past keep p h =
      let l : length (drop_idle anchors cells keep) ≤ p = rw (round_long keep) h in
      get_or-eq_default (drop_idle anchors cells keep) 0 l

  pub round_flags : (keep : List ℕ) → Flags keep → Flags (drop_idle anchors cells keep)
  round_flags keep b p = elim (dec_le (length cells) p) [ yes h ↦ rw (past keep p h) (omega arith) | no h ↦ rw (round_at keep p (omega arith)) (go (is_idle anchors keep p (cell_at cells p))) ]
    where
      go : (t : Bool) → cond t 0 (get_or keep p 0) ≤ 1
      go true = omega arith
      go false = b p

  -- no round keeps more
  round_fewer : (keep : List ℕ) (p : ℕ) → is_kept keep p ≡ false → is_kept (drop_idle anchors cells keep) p ≡ false
  round_fewer keep p e = elim (dec_le (length cells) p) [ yes h ↦ rw (past keep p h) refl | no h ↦ rw (round_at keep p (omega arith)) (go (is_idle anchors keep p (cell_at cells p))) ]
    where
      go : (t : Bool) → eqb (cond t 0 (get_or keep p 0)) 1 ≡ false
      go true = refl
      go false = e

  -- why a round drops a place
  round_why : (keep : List ℕ) (p : ℕ) → p < length cells → is_kept keep p ≡ true → is_kept (drop_idle anchors cells keep) p ≡ false
      → ((cell_at cells p).instruction.op ≡ op.Jump) × (boundary keep (target p (cell_at cells p).instruction) ≡ boundary keep p + 1)
  unfolding is_idle
  round_why keep p h k e =
      let f : eqb (cond (is_idle anchors keep p (cell_at cells p)) 0 (get_or keep p 0)) 1 ≡ false = rw (round_at keep p h) at e in
      go (is_kept keep p) k (not (eqb (get_or anchors p 0) 1)) (eqb (cell_at cells p).instruction.op op.Jump) refl
      (eqb (boundary keep (target p (cell_at cells p).instruction)) (boundary keep p + 1)) refl f
    where
      go : (a : Bool) → a ≡ true → (b c : Bool) → eqb (cell_at cells p).instruction.op op.Jump ≡ c → (d : Bool)
          → eqb (boundary keep (target p (cell_at cells p).instruction)) (boundary keep p + 1) ≡ d
          → eqb (cond (cond (a && b && c) d false) 0 (get_or keep p 0)) 1 ≡ false
          → ((cell_at cells p).instruction.op ≡ op.Jump) × (boundary keep (target p (cell_at cells p).instruction) ≡ boundary keep p + 1)
      go true x true true y true z m = (eqb-true _ _ y, eqb-true _ _ z)
      go true x true true y false z m = absurd (false≢true (sym m ∙ k))
      go true x true false y d z m = absurd (false≢true (sym m ∙ k))
      go true x false c y d z m = absurd (false≢true (sym m ∙ k))
      go false x b c y d z m = absurd (false≢true x)

  -- ---- all rounds

  pub rounds_long : (i : ℕ) (keep : List ℕ) → length keep ≡ length cells → length (jump_rounds i anchors cells keep) ≡ length cells
  unfolding jump_rounds
  rounds_long zero keep e = e
  rounds_long (suc i) keep e = rounds_long i (drop_idle anchors cells keep) (round_long keep)

  pub rounds_flags : (i : ℕ) (keep : List ℕ) → Flags keep → Flags (jump_rounds i anchors cells keep)
  unfolding jump_rounds
  rounds_flags zero keep b = b
  rounds_flags (suc i) keep b = rounds_flags i (drop_idle anchors cells keep) (round_flags keep b)

  pub rounds_fewer : (i : ℕ) (keep : List ℕ) (p : ℕ) → is_kept keep p ≡ false → is_kept (jump_rounds i anchors cells keep) p ≡ false
  unfolding jump_rounds
  rounds_fewer zero keep p e = e
  rounds_fewer (suc i) keep p e = rounds_fewer i (drop_idle anchors cells keep) p (round_fewer keep p e)

  -- all rounds keep what is no jump
  pub rounds_keep : (i : ℕ) (keep : List ℕ) (p : ℕ) → p < length cells → ((cell_at cells p).instruction.op ≡ op.Jump → ⊥) → is_kept keep p ≡ true → is_kept (jump_rounds i anchors cells keep) p ≡ true
  unfolding jump_rounds
  rounds_keep zero keep p h n e = e
  rounds_keep (suc i) keep p h n e = rounds_keep i (drop_idle anchors cells keep) p h n (go (is_kept (drop_idle anchors cells keep) p) refl)
    where
      go : (t : Bool) → is_kept (drop_idle anchors cells keep) p ≡ t → is_kept (drop_idle anchors cells keep) p ≡ true
      go true d = d
      go false d = absurd (n (round_why keep p h e d).0)

  -- nothing strictly between p and t is kept
  abbrev Bare : List ℕ → ℕ → ℕ → Type 0
  Bare keep p t = (q : ℕ) → p < q → q < t → is_kept keep q ≡ false

  bare_of : (keep : List ℕ) (p t : ℕ) → t ≤ length keep → is_kept keep p ≡ true → boundary keep t ≡ boundary keep p + 1 → p < length keep → Bare keep p t
  bare_of keep p t l kp e h q x y = go (is_kept keep q) refl
    where
      go : (u : Bool) → is_kept keep q ≡ u → is_kept keep q ≡ false
      go true u =
          let f = boundary_kept keep p h kp in
          let g = boundary_kept keep q (omega arith) u in
          let i = boundary_mono keep (suc p) q x in
          let j = boundary_mono keep (suc q) t y in
          absurd (omega arith)
      go false u = u

  onward_of : (keep : List ℕ) (p t : ℕ) → boundary keep t ≡ boundary keep p + 1 → p < t
  onward_of keep p t e = elim (dec_le (suc p) t) [ yes h ↦ h | no h ↦ (let f = boundary_mono keep t p (omega arith) in absurd (omega arith)) ]

  -- the boundary does not move over what is not kept
  bare_steps : (keep : List ℕ) → Flags keep → (p d : ℕ) → suc p + d ≤ length keep → is_kept keep p ≡ false → ((q : ℕ) → p < q → q < suc p + d → is_kept keep q ≡ false)
      → boundary keep (suc p + d) ≡ boundary keep p
  bare_steps keep b p zero l kp f = rw add-zero (boundary_dropped keep b p (omega arith) kp)
  bare_steps keep b p (suc d) l kp f =
      rw add-suc
      (boundary_dropped keep b (suc p + d) (omega arith) (f (suc p + d) (omega arith) (omega arith)) ∙ bare_steps keep b p d (omega arith) kp (λ q x y. f q x (omega arith)))

  bare_stays : (keep : List ℕ) → Flags keep → (p t : ℕ) → p < t → t ≤ length keep → is_kept keep p ≡ false → Bare keep p t → boundary keep t ≡ boundary keep p
  bare_stays keep b p t h l kp f =
      let e : suc p + (t - suc p) ≡ t = omega arith in
      let s = bare_steps keep b p (t - suc p) (omega arith) kp (λ q x y. f q x (omega arith)) in
      rw e at s

  -- the instruction at p is a jump forward over nothing that is kept
  abbrev pub Skips : List ℕ → ℕ → Type 0
  Skips keep p =
      ((cell_at cells p).instruction.op ≡ op.Jump) × (p < target p (cell_at cells p).instruction)
      × (boundary keep (target p (cell_at cells p).instruction) ≡ boundary keep p)

  -- What the rounds drop is such a jump.
  pub rounds_why : (i : ℕ) (keep : List ℕ) → Flags keep → length keep ≡ length cells → (p : ℕ) → p < length cells → target p (cell_at cells p).instruction ≤ length cells
      → is_kept keep p ≡ true → is_kept (jump_rounds i anchors cells keep) p ≡ false → Skips (jump_rounds i anchors cells keep) p
  unfolding jump_rounds
  rounds_why zero keep b l p h t kp e = absurd (false≢true (sym e ∙ kp))
  rounds_why (suc i) keep b l p h t kp e = go (is_kept (drop_idle anchors cells keep) p) refl (rounds_why i (drop_idle anchors cells keep) (round_flags keep b) (round_long keep) p h t)
    where
      go : (u : Bool) → is_kept (drop_idle anchors cells keep) p ≡ u
          → (is_kept (drop_idle anchors cells keep) p ≡ true → is_kept (jump_rounds i anchors cells (drop_idle anchors cells keep)) p ≡ false → Skips (jump_rounds i anchors cells (drop_idle anchors cells keep)) p)
          → Skips (jump_rounds i anchors cells (drop_idle anchors cells keep)) p
      go true u ih = ih u e
      go false u ih =
          let w = round_why keep p h kp u in
          let o : p < target p (cell_at cells p).instruction = onward_of keep p _ w.1 in
          let f = bare_of keep p (target p (cell_at cells p).instruction) (omega arith) kp w.1 (omega arith) in
          let r : length (jump_rounds i anchors cells (drop_idle anchors cells keep)) ≡ length cells = rounds_long i (drop_idle anchors cells keep) (round_long keep) in (
            w.0,
            o,
            bare_stays (jump_rounds i anchors cells (drop_idle anchors cells keep)) (rounds_flags i (drop_idle anchors cells keep) (round_flags keep b)) p _ o (omega arith) e
                (λ q x y. rounds_fewer i (drop_idle anchors cells keep) q (round_fewer keep q (f q x y))),
          )
