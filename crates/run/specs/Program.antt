-- Definitions. What each instruction does in a run: "Pure opcodes, Hint, Jump, JumpIf and JumpIfNot are silent. .. Every other instruction is
-- outside". Assumes nothing.
use Rattle.std.specs.Prelude.{Option, Some, None, Bool, true, false, cond, not, ◌&&◌, List, [], ◌∷◌, ◌++◌, map, ℕ, zero, suc, ◌+◌, ◌-◌, eqb, ltb, length}
use Rattle.words.specs.Lists.{is_in}
use Rattle.instruction.specs.Opcode as op
use Rattle.instruction.specs.declared.Class.{Class}
use Rattle.instruction.specs.declared.Class.TheVariants.{Hint, LoadInt, LoadConst, Copy, CopyN, Unary, Binary, Jump, JumpIf, JumpIfNot, ForLoop, Return, Panic, Outside, Invalid}
use Rattle.instruction.specs.Instruction.{imm32, class}
use Rattle.unit.specs.declared.Metadata.{Metadata}
use Rattle.unit.specs.declared.Constant.{Constant}
use Rattle.unit.specs.declared.Constant.TheVariants.{Nil, Bool as BoolConstant, Int, Float, String}
use Rattle.unit.specs.Entry.{constant_at}
use Rattle.effects.specs.declared.Range.{Range}
use Rattle.effects.specs.Shape.{Tables, Sections, Cell, cell_at}
use Rattle.effects.specs.Effects.{all_reads, arrays, sure_writes, perhaps_writes, range_has, any_of}
use Rattle.effects.specs.Check.{operand_refusal}
use Rattle.flow.specs.Branch.{target_by}
use Rattle.values.specs.Fold.{fold_word, folding_unary, folding_binary}
use Rattle.run.specs.Machine.{Words, Event, by_return, by_panic, World, Act, silent, ask, stop, fail, Node, Program}

-- the slots of ranges, one after the other
unfoldable pub slots_from : ℕ → ℕ → List ℕ
slots_from t zero = []
slots_from t (suc k) = t ∷ slots_from (suc t) k

unfoldable pub slots_of : List Range → List ℕ
slots_of [] = []
slots_of (r ∷ rs) = slots_from r.start r.count ++ slots_of rs

-- the slots that a step surely gives a word: those "declared written, the array range for SlotSet and SlotSetN". "The premise of whole
-- writing covers the sure ranges only" (document 02, L5).
unfoldable pub given_ranges : Tables → Cell → List Range
given_ranges T x = sure_writes T x ++ cond (is_in x.instruction.op (op.SlotSet ∷ op.SlotSetN ∷ [])) (arrays T x) []

-- the slots of each range that it perhaps writes
unfoldable pub perhaps_slots : Tables → Cell → List (ℕ → Bool)
perhaps_slots T x = map (λ r t. range_has t r) (perhaps_writes T x)

-- "LoadConst its constant's word (Nil 0)"; "of a String or a missing constant gives some word fixed by b"
unfoldable pub constant_word : World → ℕ → Option Constant → ℕ
constant_word W b (Some Nil) = 0
constant_word W b (Some (BoolConstant v)) = v
constant_word W b (Some (Int v)) = v
constant_word W b (Some (Float v)) = v
constant_word W b (Some String) = W.lost b
constant_word W b None = W.lost b

-- "integer opcodes the word they would fold to"; "The other unary and binary opcodes give some word fixed by opcode, flags and
-- operand words"
unfoldable pub unary_word : World → ℕ → ℕ → ℕ → ℕ
unary_word W o flags x = cond (is_in o folding_unary) (fold_word o flags x 0) (W.free o flags x 0)

unfoldable pub binary_word : World → ℕ → ℕ → ℕ → ℕ → ℕ
binary_word W o flags x y = cond (is_in o folding_binary) (fold_word o flags x y) (W.free o flags x y)

-- "metadata without end_pc"
unfoldable pub recorded_metadata : Metadata → Metadata
recorded_metadata d = record { kind = d.kind; ok = d.ok; array = d.array; first = d.first; second = d.second; end = 0 }

module _ (S : Sections) (W : World) (x : Cell) where
  -- the event of an outside step, with the a and c that are recorded
  unfoldable pub event : ℕ → ℕ → Words → Event
  event a c σ =
      record {
        op = x.instruction.op;
        flags = x.instruction.flags;
        a = a;
        b = x.instruction.b;
        c = c;
        metadata = recorded_metadata x.metadata;
        words = map σ (slots_of (all_reads S.tables x));
      }

  unfoldable pub act_by : Class → Words → Act
  act_by Hint σ = silent (λ t. 0) false
  act_by LoadInt σ = silent (λ t. imm32 x.instruction) false
  act_by LoadConst σ = silent (λ t. constant_word W x.instruction.b (constant_at S.constants x.instruction.b)) false
  act_by Copy σ = silent (λ t. σ x.instruction.b) false
  -- "CopyN reads all before writing"
  act_by CopyN σ = silent (λ t. σ (x.instruction.b + (t - x.instruction.a))) false
  act_by Unary σ = silent (λ t. unary_word W x.instruction.op x.instruction.flags (σ x.instruction.b)) false
  act_by Binary σ = silent (λ t. binary_word W x.instruction.op x.instruction.flags (σ x.instruction.b) (σ x.instruction.c)) false
  act_by Jump σ = silent (λ t. 0) true
  -- "JumpIf jumps on a nonzero word, JumpIfNot on 0"
  act_by JumpIf σ = silent (λ t. 0) (not (eqb (σ x.instruction.a) 0))
  act_by JumpIfNot σ = silent (λ t. 0) (eqb (σ x.instruction.a) 0)
  act_by ForLoop σ = ask (event x.instruction.a 0 σ)
  act_by Return σ = stop (event 0 x.instruction.c σ) by_return
  act_by Panic σ = stop (event x.instruction.a x.instruction.c σ) by_panic
  act_by Outside σ = ask (event x.instruction.a x.instruction.c σ)
  act_by Invalid σ = fail

-- A function to run: its cells, how many of them have metadata, and the unit's other sections.
pub record Function : Type 0 where
  pub cells : List Cell
  pub described : ℕ
  pub sections : Sections

-- "a step without a meaning above (Invalid, effect error, missing metadata, a slot at or past s ..)"
unfoldable pub has_meaning : Function → ℕ → Cell → Bool
has_meaning F p x = ltb p F.described && eqb (operand_refusal F.sections.locals F.sections.tables x) 0

unfoldable pub class_in : Function → ℕ → Cell → Class
class_in F p x = cond (has_meaning F p x) (class x.instruction) Invalid

unfoldable pub node_by : Function → Class → World → ℕ → Cell → Node
node_by F k W p x =
    record {
      act = act_by F.sections W x k;
      gives = λ t. any_of (range_has t) (given_ranges F.sections.tables x);
      perhaps = perhaps_slots F.sections.tables x;
      target = target_by k p x.instruction;
    }

unfoldable pub program_of : Function → World → Program
program_of F W = record { size = length F.cells; node = λ p. node_by F (class_in F p (cell_at F.cells p)) W p (cell_at F.cells p) }
