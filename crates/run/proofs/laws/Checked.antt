-- A function whose checks passed: its numbered code can be numbered and removed from, and its fields stay fields.
-- Assumes nothing.
use Rattle.std.specs.Prelude.{Some, ◌≡◌, Bool, ◌||◌, eqb}
use Rattle.std.proofs.Math.Path.{refl, sym}
use Rattle.std.proofs.Common.{ap, ◌∙◌, inl, inr, true≢false, add-zero, suc-add, add-suc}
use Rattle.std.proofs.Math.Bool.{true, false, cond, or-true}
use Rattle.std.proofs.lemmas.Bool.{false≢true}
use mathlib.Core.List.{List, [], ◌∷◌}
use Prim.Native.Nat.{ℕ, zero, suc, ◌+◌, ◌≤◌, ◌<◌}
use Rattle.std.proofs.Math.Nat.{zero-add}
use native.Mathlib.Omega.{arith}
use Rattle.std.proofs.Math.Dec.{ltb}
use Rattle.std.proofs.Math.ListN.{length}
use borrow.Author.Tests.{eq-eqb, ltb-true}
use Rattle.words.specs.Lists.{is_in}
use Rattle.instruction.specs.declared.Instruction.{Instruction}
use Rattle.instruction.specs.declared.Class.{Class}
use Rattle.instruction.specs.declared.Class.TheVariants.{Hint, LoadInt, LoadConst, Copy, CopyN, Unary, Binary, Jump, JumpIf, JumpIfNot, ForLoop, Return, Panic, Outside, Invalid}
use Rattle.instruction.specs.Class.{class_of, single, number_of}
use Rattle.instruction.specs.Instruction.{class, with_imm32}
use Rattle.instruction.specs.laws.Instruction.{Fields}
use Rattle.unit.specs.Refusal.{branch_outside}
use Rattle.unit.specs.Entry.{constant_at}
use Rattle.unit.specs.Result.{Retained}
use Rattle.effects.specs.Check.{Passed}
use Rattle.effects.specs.Shape.{Sections, Cell, cell_at}
use Rattle.effects.specs.Check.{operand_check}
use Rattle.effects.specs.laws.Sound.{lowest_passed, passed_at}
use Rattle.flow.specs.Branch.{branches, target_by, target, branch_inside, branch_check_in, branch_check}
use Rattle.flow.specs.Loop.{is_loop_hint}
use Rattle.flow.specs.Block.{ends_block, branch_targets, block_ends, is_leader, leaders}
use Rattle.flow.specs.laws.Control.{is_control}
use Rattle.flow.specs.laws.Marks.{Marked}
use Rattle.flow.specs.laws.Leaders.{leaders_long, leaders_at, leaders_first, leaders_flags}
use Rattle.values.specs.declared.Atom.{Atom}
use Rattle.values.specs.Number.{constant_atom}
use Rattle.values.specs.Values.{Values}
use Rattle.pc_map.specs.Boundary.{is_kept}
use Rattle.pc_map.specs.Relocate.{moved_jump, moved_for_loop, moved_hint, relocate, relocate_by, retain_from}
use Rattle.answer.specs.Clean.{cells_after}
use Rattle.run.specs.Program.{Function}
use Rattle.run.proofs.laws.RelocatedRun.{pick}
use Rattle.run.proofs.laws.Valuation.{Below}
use Rattle.run.specs.laws.Justified.{Justified, stays, operand, operands, tested, returned, loaded, copied, taken_if, taken_if_not, passed_if, passed_if_not}
use Rattle.run.proofs.laws.Numbered.{Numberable, numbered_function, numbered_at, numbered_long, numbered_justified, numbered_operands}
use Rattle.run.proofs.laws.Optimized.{Removing}

-- ---- a block starts at each branch's target, and after each branch

-- what is in a list is in it with one more
in_later : (t : Bool) (q y : ℕ) (l : List ℕ) → is_in q l ≡ true → is_in q (cond t (y ∷ l) l) ≡ true
in_later false q y l i = i
in_later true q y l i = go (eqb q y)
  where
    go : (s : Bool) → cond s true (is_in q l) ≡ true
    go true = refl
    go false = i

in_targets : (xs : List Cell) (p k : ℕ) → k < length xs → branches (class (cell_at xs k).instruction) ≡ true
    → is_in (target (p + k) (cell_at xs k).instruction) (branch_targets p xs) ≡ true
unfolding branch_targets
in_targets [] p k h b = absurd (omega arith)
in_targets (x ∷ xs) p zero h b = rw (add-zero, b, eq-eqb (target p x.instruction) (target p x.instruction) refl)
in_targets (x ∷ xs) p (suc k) h b =
    let q : ℕ = target (p + suc k) (cell_at xs k).instruction in
    let i : is_in q (branch_targets (suc p) xs) ≡ true = rw (add-suc, ← suc-add) (in_targets xs (suc p) k (omega arith) b) in
    in_later (branches (class x.instruction)) q (target p x.instruction) (branch_targets (suc p) xs) i

in_ends : (xs : List Cell) (p k : ℕ) → k < length xs → ends_block (class (cell_at xs k).instruction) ≡ true → is_in (suc (p + k)) (block_ends p xs) ≡ true
unfolding block_ends
in_ends [] p k h b = absurd (omega arith)
in_ends (x ∷ xs) p zero h b = rw (add-zero, b, eq-eqb (suc p) (suc p) refl)
in_ends (x ∷ xs) p (suc k) h b =
    let q : ℕ = suc (p + suc k) in
    let i : is_in q (block_ends (suc p) xs) ≡ true = rw (add-suc, ← suc-add) (in_ends xs (suc p) k (omega arith) b) in
    in_later (ends_block (class x.instruction)) q (suc p) (block_ends (suc p) xs) i

branch_ends : (k : Class) → branches k ≡ true → ends_block k ≡ true
unfolding branches ends_block
branch_ends Hint e = e
branch_ends LoadInt e = e
branch_ends LoadConst e = e
branch_ends Copy e = e
branch_ends CopyN e = e
branch_ends Unary e = e
branch_ends Binary e = e
branch_ends Jump e = e
branch_ends JumpIf e = e
branch_ends JumpIfNot e = e
branch_ends ForLoop e = e
branch_ends Return e = refl
branch_ends Panic e = refl
branch_ends Outside e = e
branch_ends Invalid e = e

module _ (cells : List Cell) where
  marked : (q : ℕ) → q < length cells → is_leader cells q ≡ true → Marked (leaders cells) q
  marked q h e = leaders_at cells q h ∙ rw e

  pub target_leads : (p : ℕ) → p < length cells → branches (class (cell_at cells p).instruction) ≡ true → target p (cell_at cells p).instruction < length cells
      → Marked (leaders cells) (target p (cell_at cells p).instruction)
  unfolding is_leader
  target_leads p h b l =
      let i : is_in (target p (cell_at cells p).instruction) (branch_targets 0 cells) ≡ true = rw zero-add at (in_targets cells 0 p h b) in
      marked _ l (rw i (go (eqb (target p (cell_at cells p).instruction) 0) _))
    where
      go : (s r : Bool) → ((s || true) || r) ≡ true
      go true r = refl
      go false r = refl

  pub next_leads : (p : ℕ) → suc p < length cells → branches (class (cell_at cells p).instruction) ≡ true → Marked (leaders cells) (suc p)
  unfolding is_leader
  next_leads p h b =
      let e : ends_block (class (cell_at cells p).instruction) ≡ true = branch_ends (class (cell_at cells p).instruction) b in
      let i : is_in (suc p) (block_ends 0 cells) ≡ true = rw zero-add at (in_ends cells 0 p (omega arith) e) in
      marked (suc p) h (rw i (or-true (eqb (suc p) 0 || is_in (suc p) (branch_targets 0 cells))))

  -- refusal 8, over any number of places, did not happen
  pub target_inside : (m : ℕ) → branch_check_in m cells ≡ Passed → (p : ℕ) → p < length cells → branches (class (cell_at cells p).instruction) ≡ true
      → target p (cell_at cells p).instruction < m
  unfolding branch_check_in branch_inside
  target_inside m e p h b =
      let z : cond (branch_inside m p (cell_at cells p).instruction) 0 branch_outside ≡ 0 =
      rw zero-add at (lowest_passed (λ p x. cond (branch_inside m p x.instruction) 0 branch_outside) 0 cells e p h) in
      let y : cond (ltb (target p (cell_at cells p).instruction) m) 0 branch_outside ≡ 0 = rw b at z in
      go (ltb (target p (cell_at cells p).instruction) m) refl y
    where
      go : (t : Bool) → ltb (target p (cell_at cells p).instruction) m ≡ t → cond t 0 branch_outside ≡ 0 → target p (cell_at cells p).instruction < m
      go true e z = ltb-true _ _ e
      go false e z = absurd (omega arith)

-- ---- what may stand for an instruction

module _ (S : Sections) (t : Values) (i : Instruction) where
  -- a branch stands only for a branch, to the same target
  pub justified_branches : {j : Instruction} → Justified S t i j → branches (class j) ≡ true → (branches (class i) ≡ true) × ((p : ℕ) → target p j ≡ target p i)
  unfolding branches target_by class_of single
  justified_branches stays b = (b, λ p. refl)
  justified_branches (operand (inl c) e h) b = absurd (false≢true (rw c at b))
  justified_branches (operand (inr c) e h) b = absurd (false≢true (rw c at b))
  justified_branches (operands c e f h k) b = absurd (false≢true (rw c at b))
  justified_branches (tested (inl c) e h) b = (b, λ p. rw c)
  justified_branches (tested (inr c) e h) b = (b, λ p. rw c)
  justified_branches (returned c e f h) b = absurd (false≢true (rw c at b))
  justified_branches (loaded c s f h) b = absurd (false≢true b)
  justified_branches (copied c s e h) b = absurd (false≢true b)
  justified_branches (taken_if c e f) b = (rw c, λ p. rw c)
  justified_branches (taken_if_not c e f) b = (rw c, λ p. rw c)
  justified_branches (passed_if c e f) b = absurd (false≢true b)
  justified_branches (passed_if_not c e f) b = absurd (false≢true b)

  -- what is no hint and ends no block stays so
  pub justified_control : {j : Instruction} → Justified S t i j → is_control (class i) ≡ false → is_control (class j) ≡ false
  unfolding class_of single number_of
  justified_control stays n = n
  justified_control (operand c e h) n = n
  justified_control (operands c e f h k) n = n
  justified_control (tested c e h) n = n
  justified_control (returned c e f h) n = n
  justified_control (loaded c s f h) n = refl
  justified_control (copied c s e h) n = refl
  justified_control (taken_if c e f) n = absurd (true≢false (rw c at n))
  justified_control (taken_if_not c e f) n = absurd (true≢false (rw c at n))
  justified_control (passed_if c e f) n = absurd (true≢false (rw c at n))
  justified_control (passed_if_not c e f) n = absurd (true≢false (rw c at n))

  -- its fields are fields
  pub justified_fields : {j : Instruction} → S.locals ≤ 65535 → Justified S t i j → Fields i → Fields j
  justified_fields l stays f = f
  justified_fields l (operand c e h) f = record { op_fits = f.op_fits; flags_fits = f.flags_fits; a_fits = f.a_fits; b_fits = omega arith; c_fits = f.c_fits }
  justified_fields l (operands c e g h k) f = record { op_fits = f.op_fits; flags_fits = f.flags_fits; a_fits = f.a_fits; b_fits = omega arith; c_fits = omega arith }
  justified_fields l (tested c e h) f = record { op_fits = f.op_fits; flags_fits = f.flags_fits; a_fits = omega arith; b_fits = f.b_fits; c_fits = f.c_fits }
  justified_fields l (returned c e g h) f = record { op_fits = f.op_fits; flags_fits = f.flags_fits; a_fits = omega arith; b_fits = f.b_fits; c_fits = f.c_fits }
  justified_fields l (loaded c s g h) f = record { op_fits = omega arith; flags_fits = omega arith; a_fits = f.a_fits; b_fits = omega arith; c_fits = omega arith }
  justified_fields l (copied c s e h) f = record { op_fits = omega arith; flags_fits = omega arith; a_fits = f.a_fits; b_fits = omega arith; c_fits = omega arith }
  justified_fields l (taken_if c e g) f = record { op_fits = omega arith; flags_fits = omega arith; a_fits = omega arith; b_fits = f.b_fits; c_fits = f.c_fits }
  justified_fields l (taken_if_not c e g) f = record { op_fits = omega arith; flags_fits = omega arith; a_fits = omega arith; b_fits = f.b_fits; c_fits = f.c_fits }
  justified_fields l (passed_if c e g) f = record { op_fits = omega arith; flags_fits = omega arith; a_fits = omega arith; b_fits = omega arith; c_fits = omega arith }
  justified_fields l (passed_if_not c e g) f = record { op_fits = omega arith; flags_fits = omega arith; a_fits = omega arith; b_fits = omega arith; c_fits = omega arith }

-- ---- what is relocated

module _ (keep : List ℕ) where
  imm_fields : (i : Instruction) (v : ℕ) → Fields i → Fields (with_imm32 i v)
  imm_fields i v f = record { op_fits = f.op_fits; flags_fits = f.flags_fits; a_fits = f.a_fits; b_fits = omega arith; c_fits = omega arith }

  pub relocated_fields : (k : Class) (p : ℕ) (x : Cell) → Fields x.instruction → Fields (relocate_by keep k p x).instruction
  unfolding relocate_by moved_jump moved_for_loop moved_hint
  relocated_fields Hint p x f = pick (λ (y : Cell). Fields y.instruction) (is_loop_hint x.instruction) (imm_fields x.instruction _ f) f
  relocated_fields LoadInt p x f = f
  relocated_fields LoadConst p x f = f
  relocated_fields Copy p x f = f
  relocated_fields CopyN p x f = f
  relocated_fields Unary p x f = f
  relocated_fields Binary p x f = f
  relocated_fields Jump p x f = imm_fields x.instruction _ f
  relocated_fields JumpIf p x f = imm_fields x.instruction _ f
  relocated_fields JumpIfNot p x f = imm_fields x.instruction _ f
  relocated_fields ForLoop p x f = record { op_fits = f.op_fits; flags_fits = f.flags_fits; a_fits = f.a_fits; b_fits = f.b_fits; c_fits = omega arith }
  relocated_fields Return p x f = f
  relocated_fields Panic p x f = f
  relocated_fields Outside p x f = f
  relocated_fields Invalid p x f = f

  -- all that is retained has fields
  pub retained_fields : (xs : List Cell) (p : ℕ) → ((k : ℕ) → k < length xs → Fields (cell_at xs k).instruction)
      → (k : ℕ) → k < length (cells_after (retain_from keep p xs)) → Fields (cell_at (cells_after (retain_from keep p xs)) k).instruction
  unfolding retain_from
  retained_fields [] p f k h = absurd (omega arith)
  retained_fields (x ∷ xs) p f k h = go (is_kept keep p) k h (relocated_fields (class x.instruction) p x (f 0 (omega arith))) (retained_fields xs (suc p) (λ k h. f (suc k) (omega arith)))
    where
      head : Retained
      head = record { instruction = (relocate keep p x).instruction; metadata = (relocate keep p x).metadata; place = p }

      go : (t : Bool) (k : ℕ) → k < length (cells_after (cond t (head ∷ retain_from keep (suc p) xs) (retain_from keep (suc p) xs)))
          → Fields (relocate keep p x).instruction
          → ((k : ℕ) → k < length (cells_after (retain_from keep (suc p) xs)) → Fields (cell_at (cells_after (retain_from keep (suc p) xs)) k).instruction)
          → Fields (cell_at (cells_after (cond t (head ∷ retain_from keep (suc p) xs) (retain_from keep (suc p) xs))) k).instruction
      go true zero h f ih = f
      go true (suc k) h f ih = ih k (omega arith)
      go false k h f ih = ih k h

-- ---- a pass over cells

-- What a function has before and after every pass.
pub record Well (F : Function) : Type 0 where
  pub locals : F.sections.locals ≤ 65535
  pub described : length F.cells ≤ F.described
  -- no more types than slots
  pub typed : length F.sections.types ≤ F.sections.locals
  pub fields : (p : ℕ) → p < length F.cells → Fields (cell_at F.cells p).instruction
  -- known constants are words of 64 bits
  pub constants : (k : ℕ) (v : Atom) → constant_atom (constant_at F.sections.constants k) ≡ Some v → (p : ℕ) → Below p v

module _ (F : Function) (w : Well F) (some_code : 0 < length F.cells) (few : length F.cells ≤ 65536)
    (checked-operands : operand_check F.sections.locals F.sections.tables F.cells ≡ Passed) (checked-branches : branch_check F.cells ≡ Passed) where
  abbrev cells : List Cell
  cells = F.cells

  abbrev S : Sections
  S = F.sections

  pub numberable : Numberable F (leaders F.cells)
  numberable = record {
    locals = w.locals;
    few = few;
    described = w.described;
    typed = w.typed;
    operands = passed_at S.locals S.tables cells checked-operands;
    fields = w.fields;
    constants = w.constants;
    targets = λ p h b. target_leads cells p h b (target_inside cells (length cells) checked-branches p h b);
    nexts = next_leads cells;
  }

  abbrev pub G : Function
  G = numbered_function F (leaders F.cells) numberable

  same_length : length G.cells ≡ length cells
  same_length = numbered_long F (leaders cells) numberable

  -- a branch of the numbered code is one of the given code, to the same target
  branch_given : (p : ℕ) → p < length cells → branches (class (cell_at G.cells p).instruction) ≡ true
      → (branches (class (cell_at cells p).instruction) ≡ true) × (target p (cell_at G.cells p).instruction ≡ target p (cell_at cells p).instruction)
  branch_given p h b =
      let e = numbered_at F (leaders cells) numberable p h in
      let r = justified_branches S _ _ (numbered_justified F (leaders cells) numberable p h) (rw e at b) in
      (r.0, ap (λ (x : Cell). target p x.instruction) e ∙ r.1 p)

  pub removing : Removing G (leaders cells)
  unfolding numbered_function
  removing = record {
    some_code = rw same_length some_code;
    few = rw same_length few;
    described = rw same_length w.described;
    operands = λ p h. numbered_operands F (leaders cells) numberable p (rw same_length at h);
    long = leaders_long cells ∙ sym same_length;
    flags = leaders_flags cells;
    one = leaders_first cells some_code;
    targets = λ p h b.
        let k : p < length cells = rw same_length at h in
        let r = branch_given p k b in
        let l = target_inside cells (length cells) checked-branches p k r.0 in
        rw (r.1, same_length) (target_leads cells p k r.0 l, l);
    nexts = λ p h b.
        let k : suc p < length cells = rw same_length at h in
        next_leads cells p k (branch_given p (omega arith) b).0;
  }

  pub numbered_control : (p : ℕ) → p < length F.cells → is_control (class (cell_at F.cells p).instruction) ≡ false → is_control (class (cell_at G.cells p).instruction) ≡ false
  numbered_control p h n = rw (numbered_at F (leaders cells) numberable p h) (justified_control S _ _ (numbered_justified F (leaders cells) numberable p h) n)

  pub numbered_fields : (p : ℕ) → p < length G.cells → Fields (cell_at G.cells p).instruction
  numbered_fields p h =
      let k : p < length cells = rw same_length at h in
      rw (numbered_at F (leaders cells) numberable p k) (justified_fields S _ _ w.locals (numbered_justified F (leaders cells) numberable p k) (w.fields p k))
