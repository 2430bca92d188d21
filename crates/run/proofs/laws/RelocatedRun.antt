-- A relocated cell does what it did: only where its branch goes is written anew.
-- Assumes nothing.
use Rattle.std.specs.Prelude.{◌≡◌, Bool, true, false, cond, List, ℕ}
use Rattle.std.proofs.Math.Path.{refl}
use Rattle.std.proofs.Common.{sym, ◌∙◌}
use Rattle.instruction.specs.declared.Class.{Class}
use Rattle.instruction.specs.declared.Class.TheVariants.{Hint, LoadInt, LoadConst, Copy, CopyN, Unary, Binary, Jump, JumpIf, JumpIfNot, ForLoop, Return, Panic, Outside, Invalid}
use Rattle.instruction.specs.Instruction.{class}
use Rattle.effects.specs.Shape.{Tables, Sections, Cell}
use Rattle.effects.specs.Effects.{all_reads, sure_writes, perhaps_writes, writes, demands_met}
use Rattle.effects.specs.Check.{operand_refusal, effects_sound}
use Rattle.effects.specs.laws.ByClass.{is_outside, reads_by_class, writes_by_class}
use Rattle.effects.proofs.laws.ByClass.{reads_by_class_lem, sure_by_class, perhaps_by_class, demands_by_class}
use Rattle.flow.specs.Loop.{is_loop_hint}
use Rattle.pc_map.specs.Relocate.{moved_jump, moved_for_loop, moved_hint, relocate_by}
use Rattle.run.specs.Machine.{Words, World}
use Rattle.run.specs.Program.{act_by, event, given_ranges, recorded_metadata}
use Rattle.run.specs.laws.Gives.{given_sure}

-- by a test
pub pick : {A : Type 0} (P : A → Type 0) (b : Bool) {y z : A} → P y → P z → P (cond b y z)
pick P true h g = h
pick P false h g = g

module _ (keep : List ℕ) (p : ℕ) (x : Cell) where
  -- the opcode stays
  pub relocated_op : (k : Class) → (relocate_by keep k p x).instruction.op ≡ x.instruction.op
  unfolding relocate_by moved_jump moved_for_loop moved_hint
  relocated_op Hint = pick (λ (y : Cell). y.instruction.op ≡ x.instruction.op) (is_loop_hint x.instruction) refl refl
  relocated_op LoadInt = refl
  relocated_op LoadConst = refl
  relocated_op Copy = refl
  relocated_op CopyN = refl
  relocated_op Unary = refl
  relocated_op Binary = refl
  relocated_op Jump = refl
  relocated_op JumpIf = refl
  relocated_op JumpIfNot = refl
  relocated_op ForLoop = refl
  relocated_op Return = refl
  relocated_op Panic = refl
  relocated_op Outside = refl
  relocated_op Invalid = refl

  -- the metadata stays but for end
  relocated_metadata : (k : Class) → recorded_metadata (relocate_by keep k p x).metadata ≡ recorded_metadata x.metadata
  unfolding relocate_by moved_jump moved_for_loop moved_hint recorded_metadata
  relocated_metadata Hint = pick (λ (y : Cell). recorded_metadata y.metadata ≡ recorded_metadata x.metadata) (is_loop_hint x.instruction) refl refl
  relocated_metadata LoadInt = refl
  relocated_metadata LoadConst = refl
  relocated_metadata Copy = refl
  relocated_metadata CopyN = refl
  relocated_metadata Unary = refl
  relocated_metadata Binary = refl
  relocated_metadata Jump = refl
  relocated_metadata JumpIf = refl
  relocated_metadata JumpIfNot = refl
  relocated_metadata ForLoop = refl
  relocated_metadata Return = refl
  relocated_metadata Panic = refl
  relocated_metadata Outside = refl
  relocated_metadata Invalid = refl

  -- so does the class
  same_class : (k : Class) → class x.instruction ≡ k → class (relocate_by keep k p x).instruction ≡ k
  same_class k e = rw (relocated_op k) e

  module _ (T : Tables) where
    -- the ranges named by fields that stay
    same_reads : (k : Class) → class x.instruction ≡ k → is_outside k ≡ false → reads_by_class k (relocate_by keep k p x).instruction ≡ reads_by_class k x.instruction
        → all_reads T (relocate_by keep k p x) ≡ all_reads T x
    same_reads k e f q =
        let g : is_outside (class (relocate_by keep k p x).instruction) ≡ false = rw (same_class k e) f in
        let h : is_outside (class x.instruction) ≡ false = rw e f in
        reads_by_class_lem T (relocate_by keep k p x) g ∙ rw (same_class k e, q) (sym (reads_by_class_lem T x h ∙ rw e))

    -- what is written stays
    pub record SameWrites (y : Cell) : Type 0 where
      pub sure : sure_writes T y ≡ sure_writes T x
      pub perhaps : perhaps_writes T y ≡ perhaps_writes T x
      pub given : given_ranges T y ≡ given_ranges T x

    all_stay : SameWrites x
    all_stay = record { sure = refl; perhaps = refl; given = refl }

    same_writes : (k : Class) → class x.instruction ≡ k → is_outside k ≡ false → writes_by_class k (relocate_by keep k p x).instruction ≡ writes_by_class k x.instruction
        → SameWrites (relocate_by keep k p x)
    same_writes k e f q =
        let g : is_outside (class (relocate_by keep k p x).instruction) ≡ false = rw (same_class k e) f in
        let h : is_outside (class x.instruction) ≡ false = rw e f in
        let w : sure_writes T (relocate_by keep k p x) ≡ sure_writes T x = sure_by_class T (relocate_by keep k p x) g ∙ rw (same_class k e, q) (sym (sure_by_class T x h ∙ rw e)) in
        record {
          sure = w;
          perhaps = perhaps_by_class T (relocate_by keep k p x) g ∙ sym (perhaps_by_class T x h);
          given = given_sure T (relocate_by keep k p x) g ∙ w ∙ sym (given_sure T x h);
        }

    pub relocated_reads : (k : Class) → class x.instruction ≡ k → all_reads T (relocate_by keep k p x) ≡ all_reads T x
    unfolding relocate_by moved_jump moved_for_loop reads_by_class is_outside
    relocated_reads Hint e = same_reads Hint e refl refl
    relocated_reads LoadInt e = refl
    relocated_reads LoadConst e = refl
    relocated_reads Copy e = refl
    relocated_reads CopyN e = refl
    relocated_reads Unary e = refl
    relocated_reads Binary e = refl
    relocated_reads Jump e = same_reads Jump e refl refl
    relocated_reads JumpIf e = same_reads JumpIf e refl refl
    relocated_reads JumpIfNot e = same_reads JumpIfNot e refl refl
    relocated_reads ForLoop e = same_reads ForLoop e refl refl
    relocated_reads Return e = refl
    relocated_reads Panic e = refl
    relocated_reads Outside e = refl
    relocated_reads Invalid e = refl

    pub relocated_writes : (k : Class) → class x.instruction ≡ k
        → SameWrites (relocate_by keep k p x)
    unfolding relocate_by moved_jump moved_for_loop writes_by_class is_outside
    relocated_writes Hint e = same_writes Hint e refl refl
    relocated_writes LoadInt e = all_stay
    relocated_writes LoadConst e = all_stay
    relocated_writes Copy e = all_stay
    relocated_writes CopyN e = all_stay
    relocated_writes Unary e = all_stay
    relocated_writes Binary e = all_stay
    relocated_writes Jump e = same_writes Jump e refl refl
    relocated_writes JumpIf e = same_writes JumpIf e refl refl
    relocated_writes JumpIfNot e = same_writes JumpIfNot e refl refl
    relocated_writes ForLoop e = same_writes ForLoop e refl refl
    relocated_writes Return e = all_stay
    relocated_writes Panic e = all_stay
    relocated_writes Outside e = all_stay
    relocated_writes Invalid e = all_stay

    same_demands : (k : Class) → class x.instruction ≡ k → is_outside k ≡ false → demands_met T (relocate_by keep k p x) ≡ demands_met T x
    same_demands k e f =
        let g : is_outside (class (relocate_by keep k p x).instruction) ≡ false = rw (same_class k e) f in
        let h : is_outside (class x.instruction) ≡ false = rw e f in
        demands_by_class T (relocate_by keep k p x) g ∙ sym (demands_by_class T x h)

    relocated_demands : (k : Class) → class x.instruction ≡ k → demands_met T (relocate_by keep k p x) ≡ demands_met T x
    unfolding relocate_by is_outside
    relocated_demands Hint e = same_demands Hint e refl
    relocated_demands LoadInt e = refl
    relocated_demands LoadConst e = refl
    relocated_demands Copy e = refl
    relocated_demands CopyN e = refl
    relocated_demands Unary e = refl
    relocated_demands Binary e = refl
    relocated_demands Jump e = same_demands Jump e refl
    relocated_demands JumpIf e = same_demands JumpIf e refl
    relocated_demands JumpIfNot e = same_demands JumpIfNot e refl
    relocated_demands ForLoop e = same_demands ForLoop e refl
    relocated_demands Return e = refl
    relocated_demands Panic e = refl
    relocated_demands Outside e = refl
    relocated_demands Invalid e = refl

    -- and whether it is refused
    pub relocated_refusal : (s : ℕ) (k : Class) → class x.instruction ≡ k → operand_refusal s T (relocate_by keep k p x) ≡ operand_refusal s T x
    unfolding operand_refusal effects_sound writes
    relocated_refusal s k e = rw (relocated_demands k e, relocated_reads k e, (relocated_writes k e).sure, (relocated_writes k e).perhaps, relocated_op k)

  -- and what it does
  module _ (S : Sections) (W : World) (σ : Words) where
    pub relocated_act : (k : Class) → class x.instruction ≡ k → act_by S W (relocate_by keep k p x) k σ ≡ act_by S W x k σ
    unfolding relocate_by moved_jump moved_for_loop act_by event
    relocated_act Hint e = refl
    relocated_act LoadInt e = refl
    relocated_act LoadConst e = refl
    relocated_act Copy e = refl
    relocated_act CopyN e = refl
    relocated_act Unary e = refl
    relocated_act Binary e = refl
    relocated_act Jump e = refl
    relocated_act JumpIf e = refl
    relocated_act JumpIfNot e = refl
    relocated_act ForLoop e = rw (relocated_reads S.tables ForLoop e)
    relocated_act Return e = refl
    relocated_act Panic e = refl
    relocated_act Outside e = refl
    relocated_act Invalid e = refl
