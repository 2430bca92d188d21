use native.Mathlib.Nat.{add-zero}
use lib.ListN.{get_or-eq_default}
use Rattle.effects.specs.Shape.{range_of, applies, value}
use Rattle.effects.specs.laws.Form.{form_at, forms, no_part}
use Rattle.words.specs.laws.Keys.{past}
use Rattle.effects.proofs.form.call_range.Goals as goal

pub returns-in-29 : goal.returns-in-29
unfolding forms form_at range_of applies value
returns-in-29 c = λ cases. rw (c.in-29.is, add-zero, ← c.callee.ensures, ← c.param_slots.ensures.0)

pub returns-in-30 : goal.returns-in-30
unfolding forms form_at range_of applies value
returns-in-30 c = λ cases. rw c.in-30.is (cc)

pub returns-in-31 : goal.returns-in-31
unfolding forms form_at range_of applies value
returns-in-31 c = λ cases. rw (c.in-31.is, add-zero) (cc)

pub returns-in-32 : goal.returns-in-32
unfolding forms form_at range_of applies value
returns-in-32 c = λ cases. rw (c.in-32.is, add-zero) (cc (c.argument_slots.ensures c.args.callees.externs.now cases))

pub returns-in_default : goal.returns-in_default
unfolding forms form_at range_of applies value
returns-in_default c = λ cases. rw (get_or-eq_default forms no_part (past 29 4 c.requires c.in_default.in_default-own.rest))
