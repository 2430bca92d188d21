-- Definitions. Document 02, L6: the desk run, over the cells of a function. A frame is a list of words, so that it computes.
-- Assumes nothing.
use Rattle.std.specs.Prelude.{Option, Some, None, ℕ, zero, suc, cond, not, List, [], ◌++◌, length, ◌==◌, nat_lt, slice_index, slice_set}
use borrow.Rule.Slice.PartMut.{mid_of, put_mid}
use Rattle.words.specs.Lists.{is_in}
use Rattle.instruction.specs.declared.Instruction.{Instruction}
use Rattle.instruction.specs.declared.Class.{Class}
use Rattle.instruction.specs.declared.Class.TheVariants as class
use Rattle.instruction.specs.Instruction.{imm32}
use Rattle.instruction.specs.Instruction as instruction
use Rattle.unit.specs.declared.Constant.{Constant}
use Rattle.unit.specs.declared.Constant.TheVariants as constant
use Rattle.unit.specs.Entry.{constant_at}
use Rattle.effects.specs.Shape.{Sections, Cell, cell_at}
use Rattle.flow.specs.Branch.{target_by}
use Rattle.values.specs.Fold.{fold_word, folding_unary, folding_binary}
use Rattle.desk.specs.declared.Stop.{Stop}
use Rattle.desk.specs.declared.Stop.TheVariants.{Returned, Panicked, Ended, Other, Limit}

-- how a run stopped, and the frame then: "The frame holds the slot words at that point"
pub record Stopped : Type 0 where
  pub stop : Stop
  pub frame : List ℕ

abbrev pub stopped_with : Stop → List ℕ → Stopped
stopped_with s f = record { stop = s; frame = f }

-- What is due at an instruction: a step to a place with a frame; Return or Panic, which is a step too; or nothing, since it is another instruction.
pub data Due : Type 0 where
  goes : ℕ → List ℕ → Due
  stops : Stop → Due
  not_executed : Due

-- slot a gets the word, and the next place is due
abbrev pub stores : ℕ → List ℕ → ℕ → ℕ → Due
stores p f a w = goes (suc p) (slice_set f a w)

-- "LoadConst of kinds 0 to 3"; "LoadConst its constant's word (Nil 0)"
unfoldable pub loads : ℕ → List ℕ → ℕ → Option Constant → Due
loads p f a (Some constant.Nil) = stores p f a 0
loads p f a (Some (constant.Bool v)) = stores p f a v
loads p f a (Some (constant.Int v)) = stores p f a v
loads p f a (Some (constant.Float v)) = stores p f a v
loads p f a (Some constant.String) = not_executed
loads p f a None = not_executed

-- "It executes LoadInt, LoadConst of kinds 0 to 3, Copy, CopyN, the 21 opcodes that fold, Hint, the three jumps, Return and Panic." CopyN reads all
-- before it writes; Return reads b slots from a on, Panic two.
unfoldable pub due_by : List ℕ → Class → ℕ → Instruction → List ℕ → Due
due_by constants class.Hint p i f = goes (suc p) f
due_by constants class.LoadInt p i f = stores p f i.a (imm32 i)
due_by constants class.LoadConst p i f = loads p f i.a (constant_at constants i.b)
due_by constants class.Copy p i f = stores p f i.a (slice_index f i.b)
due_by constants class.CopyN p i f = goes (suc p) (put_mid i.a i.c f (mid_of i.b i.c f))
due_by constants class.Unary p i f = cond (is_in i.op folding_unary) (stores p f i.a (fold_word i.op i.flags (slice_index f i.b) 0)) not_executed
due_by constants class.Binary p i f = cond (is_in i.op folding_binary) (stores p f i.a (fold_word i.op i.flags (slice_index f i.b) (slice_index f i.c))) not_executed
due_by constants class.Jump p i f = goes (target_by class.Jump p i) f
due_by constants class.JumpIf p i f = goes (cond (not (slice_index f i.a == 0)) (target_by class.JumpIf p i) (suc p)) f
due_by constants class.JumpIfNot p i f = goes (cond (slice_index f i.a == 0) (target_by class.JumpIfNot p i) (suc p)) f
due_by constants class.ForLoop p i f = not_executed
due_by constants class.Return p i f = stops (Returned i.a i.b)
due_by constants class.Panic p i f = stops (Panicked i.a 2)
due_by constants class.Outside p i f = not_executed
due_by constants class.Invalid p i f = not_executed

-- with no step left: "neither the end of the code nor another instruction is due"
unfoldable pub halted : ℕ → List ℕ → Due → Stopped
halted p f (goes q g) = stopped_with Limit f
halted p f (stops s) = stopped_with Limit f
halted p f not_executed = stopped_with (Other p) f

-- a step, and the run from where it goes
unfoldable pub taken : ℕ → List ℕ → (ℕ → List ℕ → Stopped) → Due → Stopped
taken p f later (goes q g) = later q g
taken p f later (stops s) = stopped_with s f
taken p f later not_executed = stopped_with (Other p) f

module _ (S : Sections) (cells : List Cell) where
  abbrev pub due_at : ℕ → List ℕ → Due
  due_at p f = due_by S.constants (instruction.class (cell_at cells p).instruction) p (cell_at cells p).instruction f

  -- The run from place p with frame f and at most k steps. "Return and Panic are steps; the end of the code and another instruction are not."
  unfoldable pub run_from : ℕ → ℕ → List ℕ → Stopped
  run_from zero p f = let rest = halted p f (due_at p f) in cond (nat_lt p (length cells)) rest (stopped_with Ended f)
  run_from (suc k) p f = let rest = taken p f (run_from k) (due_at p f) in cond (nat_lt p (length cells)) rest (stopped_with Ended f)

  -- What is noted of the places that the run steps from, newest first; nothing of the end of the code, of another instruction and at the limit.
  module _ (note : ℕ → List ℕ) where
    unfoldable pub noted_by : ℕ → (ℕ → List ℕ → List ℕ) → Due → List ℕ
    noted_by p later (goes q g) = later q g ++ note p
    noted_by p later (stops s) = note p
    noted_by p later not_executed = []

    unfoldable pub notes_from : ℕ → ℕ → List ℕ → List ℕ
    notes_from zero p f = []
    notes_from (suc k) p f = let notes = noted_by p (notes_from k) (due_at p f) in cond (nat_lt p (length cells)) notes []
