use mathlib.Core.Path.{◌≡◌, sym, ◌∙◌}
use mathlib.Core.Bool.{true}
use native.Mathlib.Omega.{arith}
use Rattle.instruction.specs.Instruction.{of_word, class}
use Rattle.instruction.specs.laws.Instruction.{word_fields}
use Rattle.effects.specs.Shape.{Cell, Tables, tables_in}
use Rattle.effects.specs.laws.Cells.{cell_of}
use Rattle.effects.specs.laws.Single.{is_single}
use Rattle.effects.proofs.laws.Single.{single_passes, single_outside}
use Rattle.effects.proofs.operands.operand_refusal.Goals as goal
use Rattle.effects.proofs.operands.operand_refusal.Goals.{Else-not-is_single}

single : (c : Else-not-is_single) → is_single (class (of_word c.args.w)) ≡ true
unfolding of_word
single c = sym (rw c.class_of-class.ensures at c.is_single.ensures) ∙ c.if-not-is_single.false

pub returns-then-is_within : goal.returns-then-is_within
unfolding of_word
returns-then-is_within c =
    let a = c.args in
    let x : Cell = cell_of a.metadata.now a.p a.w in
    let T : Tables = tables_in a.tables.now in
    sym (single_passes T x (single (goal.at.returns-then-is_within c).Else-not-is_single) (word_fields a.w) a.locals (omega arith) (sym (rw c.class_of-class.ensures at c.is_within.ensures) ∙ c.if-is_within.true))

pub returns : goal.returns
unfolding of_word
returns c =
    let a = c.args in
    let x : Cell = cell_of a.metadata.now a.p a.w in
    let T : Tables = tables_in a.tables.now in
    sym (single_outside T x (single (goal.at.returns c).Else-not-is_single) (word_fields a.w) a.locals (omega arith) (sym (rw c.class_of-class.ensures at c.is_within.ensures) ∙ c.if-is_within.false))
