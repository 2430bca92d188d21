use mathlib.Core.Path.{sym, ◌∙◌}
use native.Mathlib.Omega.{arith}
use Rattle.instruction.specs.Instruction.{of_word}
use Rattle.instruction.specs.laws.Instruction.{word_fields}
use Rattle.effects.specs.Shape.{Cell, Tables, tables_in}
use Rattle.effects.specs.laws.Cells.{cell_of}
use Rattle.effects.specs.laws.Operands.{refused_invalid}
use Rattle.effects.specs.laws.Plain.{Plain}
use Rattle.effects.proofs.laws.Plain.{plain_row, plain_passes, plain_outside}
use borrow.Author.Rules.{rules}
use Rattle.effects.proofs.operands.row_refusal.Goals as goal

pub returns-then-op-gt-MAX_VALID : goal.returns-then-op-gt-MAX_VALID
unfolding of_word
returns-then-op-gt-MAX_VALID c =
    let a = c.args in
    let x : Cell = cell_of a.metadata.now a.p a.w in
    let T : Tables = tables_in a.tables.now in
    sym (refused_invalid T x a.locals c.if-op-gt-MAX_VALID.true)

pub ranges_refusal-requires : goal.ranges_refusal-requires
unfolding of_word
ranges_refusal-requires c = (search rules, rw c.metadata.ensures c.requires.2, rw c.from_word.ensures c.if-op-gt-MAX_VALID.false)

pub returns-then-not-is_plain : goal.returns-then-not-is_plain
returns-then-not-is_plain c = rw (← c.metadata.ensures, ← c.from_word.ensures) c.ranges_refusal.ensures

pub is_within-requires : goal.is_within-requires
unfolding of_word
is_within-requires c =
    let a = c.args in
    let row = c.row-row in
    let p : Plain (of_word a.w).op row.result = plain_row (of_word a.w).op row.result row.ensures c.if-op-gt-MAX_VALID.false (sym c.is_plain.ensures ∙ c.if-not-is_plain.false) in
    (p.low, p.form)

pub returns-then-is_within : goal.returns-then-is_within
unfolding of_word
returns-then-is_within c =
    let a = c.args in
    let x : Cell = cell_of a.metadata.now a.p a.w in
    let T : Tables = tables_in a.tables.now in
    let row = c.row-row in
    let p : Plain (of_word a.w).op row.result = plain_row (of_word a.w).op row.result row.ensures c.if-op-gt-MAX_VALID.false (sym c.is_plain.ensures ∙ c.if-not-is_plain.false) in
    sym (plain_passes a.locals (omega arith) T x (word_fields a.w) c.if-op-gt-MAX_VALID.false row.result row.ensures p (sym c.is_within.ensures ∙ c.if-is_within.true))

pub returns : goal.returns
unfolding of_word
returns c =
    let a = c.args in
    let x : Cell = cell_of a.metadata.now a.p a.w in
    let T : Tables = tables_in a.tables.now in
    let row = c.row-row in
    let p : Plain (of_word a.w).op row.result = plain_row (of_word a.w).op row.result row.ensures c.if-op-gt-MAX_VALID.false (sym c.is_plain.ensures ∙ c.if-not-is_plain.false) in
    sym (plain_outside a.locals (omega arith) T x (word_fields a.w) c.if-op-gt-MAX_VALID.false row.result row.ensures p (sym c.is_within.ensures ∙ c.if-is_within.false))
