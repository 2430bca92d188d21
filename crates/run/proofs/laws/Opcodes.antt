-- What stands for an instruction: what numbering makes of it, what relocation does, and that no plain hint is retained.
-- Assumes nothing.
use Rattle.std.specs.Prelude.{Option, None, Some, ◌≡◌, ◌⊎◌, Bool, cond, ◌&&◌, eqb, length, get_or}
use Rattle.std.proofs.Math.Path.{refl}
use Rattle.std.proofs.Common.{sym, ap, ◌∙◌, inr, true≢false}
use Rattle.std.proofs.Math.Logic.{inl}
use Rattle.std.proofs.Math.Bool.{true, false}
use Rattle.std.proofs.lemmas.Bool.{false≢true}
use mathlib.Core.List.{List, [], ◌∷◌}
use Prim.Native.Nat.{ℕ, zero, suc, ◌+◌, ◌<◌}
use native.Mathlib.Omega.{arith}
use Rattle.instruction.specs.declared.Instruction.{Instruction}
use Rattle.instruction.specs.declared.Class.{Class}
use Rattle.instruction.specs.declared.Class.TheVariants.{Hint, LoadInt, LoadConst, Copy, CopyN, Unary, Binary, Jump, JumpIf, JumpIfNot, ForLoop, Return, Panic, Outside, Invalid}
use Rattle.instruction.specs.Class.{class_of, single, number_of}
use Rattle.instruction.specs.Instruction.{class}
use Rattle.unit.specs.Result.{Retained}
use Rattle.effects.specs.Shape.{Sections, Cell, cell_at}
use Rattle.flow.specs.Loop.{is_plain_hint, anchors}
use Rattle.values.specs.declared.Atom.{Atom}
use Rattle.values.specs.declared.Atom.TheVariants.{Integer, Float, Definition}
use Rattle.values.specs.Fold.{fits_imm32}
use Rattle.values.specs.Values.{Values, Expression, expression_in}
use Rattle.values.specs.Number.{Numbered, is_scalar, stored, copy_or_stay, copied, folded, held_or_stays, by_expression, by_value, by_value_with, number_constant, number_copy, number_read, number_jump, decided, number_unary_with, number_binary_with, number_by, number_by_with}
use Rattle.liveness.specs.Live.{Row, live_rows}
use Rattle.liveness.specs.Dead.{without_dead, dead_stores}
use Rattle.pc_map.specs.Boundary.{is_kept}
use Rattle.pc_map.specs.Relocate.{relocate, relocate_by, retain_from}
use Rattle.answer.specs.Pass.{useful_places, kept_places}
use Rattle.lines.specs.Lines.{places_of}
use Rattle.answer.specs.Clean.{cells_after}
use Rattle.run.specs.Visits.{is_operator, is_conditional, StandsFor, same_opcode, load_int, copy, jump}
use Rattle.run.specs.laws.Jumps.{rounds_fewer}
use Rattle.run.proofs.laws.RelocatedRun.{pick, relocated_op}
use Rattle.run.specs.laws.Alive.{stays_at}
use Rattle.run.proofs.laws.Optimized.{useful_at}

-- one after another
pub stands_trans : {i j k : Instruction} → StandsFor i j → StandsFor j k → StandsFor i k
unfolding class_of number_of single
stands_trans (same_opcode a b) (same_opcode c d) = same_opcode (c ∙ a) (λ l. d (ap class_of a ∙ l) ∙ b l)
stands_trans (same_opcode a b) (load_int h e) = load_int (rw a at h) e
stands_trans (same_opcode a b) (copy h e) = copy (rw a at h) e
stands_trans (same_opcode a b) (jump h e) = jump (rw a at h) e
stands_trans (load_int h e) (same_opcode c d) = load_int h (c ∙ e)
stands_trans (load_int h e) (load_int k f) = load_int h f
stands_trans (load_int h e) (copy k f) = copy h f
stands_trans (load_int h e) (jump k f) = absurd (false≢true (rw e at k))
stands_trans (copy h e) (same_opcode c d) = copy h (c ∙ e)
stands_trans (copy h e) (load_int k f) = load_int h f
stands_trans (copy h e) (copy k f) = copy h f
stands_trans (copy h e) (jump k f) = absurd (false≢true (rw e at k))
stands_trans (jump h e) (same_opcode c d) = jump h (c ∙ e)
stands_trans (jump h e) (load_int k f) = absurd (false≢true (rw e at k))
stands_trans (jump h e) (copy k f) = absurd (false≢true (rw e at k))
stands_trans (jump h e) (jump k f) = jump h f

itself : {i : Instruction} → StandsFor i i
itself = same_opcode refl (λ l. refl)

-- with other operands, where it is no LoadConst
renamed : {i j : Instruction} (k : Class) → class i ≡ k → eqb (number_of k) (number_of LoadConst) ≡ false → j.op ≡ i.op → StandsFor i j
unfolding number_of
renamed k e n o = same_opcode o (λ l. absurd (true≢false (rw (sym e ∙ l) at n)))

-- ---- what numbering makes of an instruction

module _ (S : Sections) (p : ℕ) where
  module _ (i : Instruction) (t : Values) (operator : is_operator (class i) ≡ true) where
    copied_op : (o : Option ℕ) → StandsFor i (copy_or_stay S i o)
    unfolding copy_or_stay
    copied_op (Some r) = copy operator refl
    copied_op None = itself

    folded_op : (v : ℕ) → StandsFor i (folded S (held_or_stays S) i t v)
    unfolding folded copied
    folded_op v = pick (StandsFor i) (fits_imm32 v) (load_int operator refl) (copied_op _)

    expression_op : (e : Expression) (o : Option Atom) → StandsFor i (by_expression S p i t e o).instruction
    unfolding by_expression stored copied
    expression_op e (Some v) = copied_op _
    expression_op e None = itself

    value_op : (e : Expression) (o : Option ℕ) → StandsFor i (by_value S p i t e o).instruction
    unfolding by_value_with stored
    value_op e (Some v) = folded_op v
    value_op e None = expression_op e (expression_in t.expressions e)

  abbrev Numbers : Instruction → Numbered → Type 0
  Numbers i r = StandsFor i r.instruction ⊎ (is_plain_hint r.instruction ≡ true)

  jump_op : (takes : ℕ → Bool) (i : Instruction) (t : Values) (v : Atom) → is_conditional (class i) ≡ true → StandsFor i (number_read S i t).instruction
      → Numbers i (number_jump S takes i t v)
  unfolding number_jump decided
  jump_op takes i t (Integer v) h s = pick (λ (j : Instruction). StandsFor i j ⊎ (is_plain_hint j ≡ true)) (takes v) (inl (jump h refl)) (inr refl)
  jump_op takes i t (Float v) h s = pick (Numbers i) (is_scalar S i.a) (inl s) (inl itself)
  jump_op takes i t (Definition q u) h s = pick (Numbers i) (is_scalar S i.a) (inl s) (inl itself)

  constant_op : (i : Instruction) (t : Values) (o : Option Atom) → Numbers i (number_constant S i t o)
  unfolding number_constant stored
  constant_op i t (Some v) = inl itself
  constant_op i t None = inl itself

  -- an instruction that may stand for the given one, or a plain hint for a conditional jump
  pub number_op : (k : Class) (i : Instruction) (t : Values) → class i ≡ k → Numbers i (number_by S k p i t)
  unfolding number_by_with number_unary_with number_binary_with number_copy number_read stored number_of
  number_op Hint i t e = inl itself
  number_op LoadInt i t e = pick (Numbers i) (is_scalar S i.a) (inl itself) (inl itself)
  number_op LoadConst i t e = pick (Numbers i) (is_scalar S i.a) (constant_op i t _) (inl itself)
  number_op Copy i t e = pick (Numbers i) (is_scalar S i.a) (inl (renamed Copy e refl refl)) (inl itself)
  number_op CopyN i t e = inl itself
  number_op Unary i t e = pick (Numbers i) (is_scalar S i.a) (inl (stands_trans (renamed Unary e refl refl) (value_op _ t (rw e refl) _ _))) (inl itself)
  number_op Binary i t e = pick (Numbers i) (is_scalar S i.a) (inl (stands_trans (renamed Binary e refl refl) (value_op _ t (rw e refl) _ _))) (inl itself)
  number_op Jump i t e = inl itself
  number_op JumpIf i t e = jump_op _ i t _ (rw e refl) (renamed JumpIf e refl refl)
  number_op JumpIfNot i t e = jump_op _ i t _ (rw e refl) (renamed JumpIfNot e refl refl)
  number_op ForLoop i t e = inl itself
  number_op Return i t e = pick (Numbers i) (eqb i.b 1 && is_scalar S i.a) (inl (renamed Return e refl refl)) (inl itself)
  number_op Panic i t e = inl itself
  number_op Outside i t e = inl itself
  number_op Invalid i t e = inl itself

-- ---- no plain hint is retained

module _ (S : Sections) (leaders marks : List ℕ) (code : List Cell) where
  dead_fewer : (keep : List ℕ) (o : Option (List Row)) (p : ℕ) → p < length code → is_kept keep p ≡ false → is_kept (without_dead S leaders keep code o) p ≡ false
  unfolding without_dead
  dead_fewer keep None p h e = e
  dead_fewer keep (Some rows) p h e = rw (stays_at S leaders keep code rows p h, e) refl

  pub kept_plain : (p : ℕ) → p < length code → is_kept (kept_places S leaders marks code) p ≡ true → is_plain_hint (cell_at code p).instruction ≡ false
  unfolding kept_places dead_stores
  kept_plain p h e = go (is_plain_hint (cell_at code p).instruction) refl
    where
      go : (t : Bool) → is_plain_hint (cell_at code p).instruction ≡ t → is_plain_hint (cell_at code p).instruction ≡ false
      go true q =
          let gone : is_kept (useful_places marks code) p ≡ false = rw (useful_at marks code p h, q) refl in
          let dropped = dead_fewer (useful_places marks code) (live_rows S leaders (useful_places marks code) code) p h gone in
          absurd (false≢true (sym (rounds_fewer (anchors marks code) code 16 _ p dropped) ∙ e))
      go false q = q

-- ---- what is retained

-- relocation alters no opcode, and of a LoadConst nothing
relocated_stands : (keep : List ℕ) (p : ℕ) (x : Cell) → StandsFor x.instruction (relocate keep p x).instruction
unfolding relocate_by
relocated_stands keep p x = same_opcode (relocated_op keep p x (class x.instruction)) (λ l. ap (λ (k : Class). (relocate_by keep k p x).instruction.b) l)

module _ (keep : List ℕ) (origin : ℕ → Instruction) where
  pub stands_from : (xs : List Cell) (s : ℕ) → ((k : ℕ) → k < length xs → is_kept keep (s + k) ≡ true → StandsFor (origin (s + k)) (cell_at xs k).instruction)
      → (q : ℕ) → q < length (retain_from keep s xs) → StandsFor (origin (get_or (places_of (retain_from keep s xs)) q 0)) (cell_at (cells_after (retain_from keep s xs)) q).instruction
  unfolding retain_from
  stands_from [] s f q h = absurd (omega arith)
  stands_from (x ∷ xs) s f q h =
      go (is_kept keep s) refl q h (stands_from xs (suc s) (λ k l e. let next : s + suc k ≡ suc s + k = omega arith in rw next at (f (suc k) (omega arith) (rw next e))))
    where
      head : Retained
      head = record { instruction = (relocate keep s x).instruction; metadata = (relocate keep s x).metadata; place = s }

      rest : List Retained
      rest = retain_from keep (suc s) xs

      go : (t : Bool) → is_kept keep s ≡ t → (q : ℕ) → q < length (cond t (head ∷ rest) rest)
          → ((q : ℕ) → q < length rest → StandsFor (origin (get_or (places_of rest) q 0)) (cell_at (cells_after rest) q).instruction)
          → StandsFor (origin (get_or (places_of (cond t (head ∷ rest) rest)) q 0)) (cell_at (cells_after (cond t (head ∷ rest) rest)) q).instruction
      go true e zero h ih =
          let first : s + 0 ≡ s = omega arith in
          stands_trans (rw first at (f 0 (omega arith) (rw first e))) (relocated_stands keep s x)
      go true e (suc q) h ih = ih q (omega arith)
      go false e q h ih = ih q h
