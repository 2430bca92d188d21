use Rattle.effects.proofs.form.range_of.Goals as goal

pub returns-then-form-lt3 : goal.returns-then-form-lt3
returns-then-form-lt3 c = λ cases. c.slot_range.ensures _ _

pub returns-then-form-lt18 : goal.returns-then-form-lt18
returns-then-form-lt18 c = λ cases. c.field_range.ensures _ _

pub returns-then-form-lt29 : goal.returns-then-form-lt29
returns-then-form-lt29 c = λ cases. c.layout_range.ensures _
