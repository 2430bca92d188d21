-- What an instruction reads and writes, by its class, and that it demands nothing: of all classes but Outside and Invalid, whose
-- opcodes differ.
-- Assumes nothing.
use Rattle.std.specs.Prelude.{◌≡◌, true, false}
use Rattle.std.proofs.Math.Path.{refl}
use Rattle.std.proofs.Common.{sym, ◌∙◌}
use mathlib.Core.List.{[], map}
use Rattle.std.proofs.Math.Nat.{add-zero}
use Rattle.std.proofs.Math.Dec.{eqb}
use borrow.Author.Tests.{eqb-false}
use Rattle.words.specs.Lists.{tabulate, tabulate_from}
use Rattle.instruction.specs.Opcode as op
use Rattle.instruction.specs.Class.{class_of, single}
use Rattle.instruction.specs.Instruction.{class}
use Rattle.effects.specs.Shape.{Tables, Cell, applies, value, range_of, met}
use Rattle.effects.specs.Table.{read_shape, write_shape, array_shape, shape_in}
use Rattle.effects.specs.Effects.{all_reads, sure_writes, perhaps_writes, writes, demands_met}
use Rattle.effects.specs.laws.Form.{demand_at, demand_row_of, read_parts, write_parts}
use Rattle.effects.proofs.laws.Ranges.{reads_other, perhaps_none, sure_parts, writes_sure, demands_row}
use Rattle.effects.specs.laws.ByClass.{by_class, is_outside, reads_by_class, writes_by_class}

-- ---- the effects of their instructions

module _ (T : Tables) (x : Cell) (inside : is_outside (class x.instruction) ≡ false) where
  -- neither of the two that perhaps write is one of them
  not_next : x.instruction.op ≡ op.MapIterNext → ⊥
  unfolding tabulate tabulate_from is_outside class_of single
  not_next = eqb-false x.instruction.op op.MapIterNext (by_class (λ o. eqb o op.MapIterNext) (λ k. false) refl x.instruction.op inside)

  not_select : x.instruction.op ≡ op.SelectExec → ⊥
  unfolding tabulate tabulate_from is_outside class_of single
  not_select = eqb-false x.instruction.op op.SelectExec (by_class (λ o. eqb o op.SelectExec) (λ k. false) refl x.instruction.op inside)

  -- each range starts 0 past a field
  pub reads_by_class_lem : all_reads T x ≡ reads_by_class (class x.instruction) x.instruction
  unfolding tabulate tabulate_from is_outside class_of single reads_by_class read_shape array_shape shape_in range_of applies value
  reads_by_class_lem =
      reads_other T x not_select
      ∙ by_class (λ o. map (range_of T x) (read_parts o)) (λ k. reads_by_class k x.instruction)
      (rw (add-zero x.instruction.a, add-zero x.instruction.b, add-zero x.instruction.c))
      x.instruction.op inside

  pub perhaps_by_class : perhaps_writes T x ≡ []
  perhaps_by_class = perhaps_none T x not_select not_next

  pub sure_by_class : sure_writes T x ≡ writes_by_class (class x.instruction) x.instruction
  unfolding tabulate tabulate_from is_outside class_of single writes_by_class write_shape shape_in range_of applies value
  sure_by_class =
      sure_parts T x
      ∙ by_class (λ o. map (range_of T x) (write_parts o)) (λ k. writes_by_class k x.instruction)
      (rw (add-zero x.instruction.a))
      x.instruction.op inside

  pub writes_by_class_lem : writes T x ≡ writes_by_class (class x.instruction) x.instruction
  writes_by_class_lem = writes_sure T x perhaps_by_class ∙ sure_by_class

  pub demands_by_class : demands_met T x ≡ true
  unfolding tabulate tabulate_from is_outside class_of single demand_at met
  demands_by_class = demands_row T x 0 (sym (by_class demand_row_of (λ k. 0) refl x.instruction.op inside))
