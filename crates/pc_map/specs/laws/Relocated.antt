-- Relocation of an instruction and of its metadata, each by itself; when it can be done.
-- Assumes nothing.
use Rattle.std.specs.Prelude.{◌≡◌, ℕ, Bool, true, false, cond, ◌&&◌, List, ◌==◌, nat_le}
use Rattle.std.proofs.Math.Path.{refl}
use Rattle.std.proofs.Common.{sym, ap, ◌∙◌, eqb-true}
use Rattle.std.proofs.lemmas.Bool.{false≢true}
use Rattle.words.specs.laws.Truth.{left_true}
use Rattle.instruction.specs.declared.Instruction.{Instruction}
use Rattle.instruction.specs.declared.Class.{Class}
use Rattle.instruction.specs.declared.Class.TheVariants.{Hint, LoadInt, LoadConst, Copy, CopyN, Unary, Binary, Jump, JumpIf, JumpIfNot, ForLoop, Return, Panic, Outside, Invalid}
use Rattle.instruction.specs.Instruction.{imm32_unsigned, with_imm32, class}
use Rattle.instruction.specs.laws.ReadBack.{hint_class}
use Rattle.unit.specs.Refusal.{lost_loop}
use Rattle.unit.specs.declared.Metadata.{Metadata}
use Rattle.effects.specs.Shape.{Cell}
use Rattle.flow.specs.Block.{ends_block}
use Rattle.flow.specs.Loop.{is_loop_hint, loop_exit, loop_end}
use Rattle.pc_map.specs.Boundary.{is_kept, boundary}
use Rattle.pc_map.specs.Relocate.{moved_hint, relocate_by, relocate}

abbrev pub cell : Instruction → Metadata → Cell
cell i d = record { instruction = i; metadata = d }

-- the test of `relocation_check`
abbrev pub relocation_test : List ℕ → ℕ → ℕ → Cell → ℕ
relocation_test keep n p x =
    cond (is_kept keep p && is_loop_hint x.instruction) (cond (nat_le (loop_exit x) n && is_kept keep (loop_end x)) 0 lost_loop) 0

-- a hint's instruction, and every instruction's metadata
abbrev pub moved_exit : List ℕ → Instruction → Instruction
moved_exit keep i = cond (is_loop_hint i) (with_imm32 i (boundary keep (imm32_unsigned i))) i

abbrev pub moved_end : List ℕ → Metadata → Metadata
moved_end keep d = record { kind = d.kind; ok = d.ok; array = d.array; first = d.first; second = d.second; end = boundary keep d.end }

module _ (keep : List ℕ) where
  pub hint_instruction : (x : Cell) → (moved_hint keep x).instruction ≡ moved_exit keep x.instruction
  unfolding moved_hint
  hint_instruction x = go (is_loop_hint x.instruction) _ _
    where
      go : (t : Bool) (y z : Cell) → (cond t y z).instruction ≡ cond t y.instruction z.instruction
      go true y z = refl
      go false y z = refl

  -- a loop hint is of the class Hint
  loop_class : (i : Instruction) → is_loop_hint i ≡ true → class i ≡ Hint
  loop_class i e = hint_class i (eqb-true i.op 0 (left_true (i.op == 0) (i.flags == 1) e))

  pub moved_metadata : (p : ℕ) (x : Cell) → (relocate keep p x).metadata ≡ cond (is_loop_hint x.instruction) (moved_end keep x.metadata) x.metadata
  unfolding relocate_by moved_hint
  moved_metadata p x = go (is_loop_hint x.instruction) refl
    where
      other : is_loop_hint x.instruction ≡ false → (k : Class) → (relocate_by keep k p x).metadata ≡ x.metadata
      other e Hint = rw e
      other e LoadInt = refl
      other e LoadConst = refl
      other e Copy = refl
      other e CopyN = refl
      other e Unary = refl
      other e Binary = refl
      other e Jump = refl
      other e JumpIf = refl
      other e JumpIfNot = refl
      other e ForLoop = refl
      other e Return = refl
      other e Panic = refl
      other e Outside = refl
      other e Invalid = refl

      go : (t : Bool) → is_loop_hint x.instruction ≡ t → (relocate keep p x).metadata ≡ cond (is_loop_hint x.instruction) (moved_end keep x.metadata) x.metadata
      go true e = ap (λ (k : Class). (relocate_by keep k p x).metadata) (loop_class x.instruction e) ∙ rw e
      go false e = other e (class x.instruction) ∙ rw e

  -- where no block ends, a loop hint's exit moves and nothing else
  pub moved_inside : (p : ℕ) (x : Cell) → ends_block (class x.instruction) ≡ false → moved_exit keep x.instruction ≡ (relocate keep p x).instruction
  unfolding relocate_by moved_hint ends_block
  moved_inside p x ends = go (is_loop_hint x.instruction) refl
    where
      other : is_loop_hint x.instruction ≡ false → (k : Class) → ends_block k ≡ false → x.instruction ≡ (relocate_by keep k p x).instruction
      other e Hint f = rw e
      other e LoadInt f = refl
      other e LoadConst f = refl
      other e Copy f = refl
      other e CopyN f = refl
      other e Unary f = refl
      other e Binary f = refl
      other e Jump f = absurd (false≢true (sym f))
      other e JumpIf f = absurd (false≢true (sym f))
      other e JumpIfNot f = absurd (false≢true (sym f))
      other e ForLoop f = absurd (false≢true (sym f))
      other e Return f = refl
      other e Panic f = refl
      other e Outside f = refl
      other e Invalid f = refl

      go : (t : Bool) → is_loop_hint x.instruction ≡ t → moved_exit keep x.instruction ≡ (relocate keep p x).instruction
      go true e = sym (ap (λ (k : Class). (relocate_by keep k p x).instruction) (loop_class x.instruction e) ∙ hint_instruction x)
      go false e = rw e (other e (class x.instruction) ends)
