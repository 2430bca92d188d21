use mathlib.Core.Path.{◌≡◌}
use native.Mathlib.Nat.{add-zero}
use Rattle.effects.specs.Shape.{range_of, applies, value}
use Rattle.effects.specs.laws.Form.{form_at, forms}
use Rattle.words.specs.laws.Keys.{past, only}
use Rattle.effects.proofs.form.field_range.Goals as goal
use Rattle.effects.proofs.form.field_range.Goals.{Start}

pub returns-in-3 : goal.returns-in-3
unfolding forms form_at range_of applies value
returns-in-3 c = λ T m. rw (c.in-3.is, add-zero)

pub returns-in-4 : goal.returns-in-4
unfolding forms form_at range_of applies value
returns-in-4 c = λ T m. rw (c.in-4.is, add-zero)

pub returns-in-5 : goal.returns-in-5
unfolding forms form_at range_of applies value
returns-in-5 c = λ T m. rw (c.in-5.is, add-zero)

pub returns-in-6 : goal.returns-in-6
unfolding forms form_at range_of applies value
returns-in-6 c = λ T m. rw (c.in-6.is, add-zero)

pub returns-in-7 : goal.returns-in-7
unfolding forms form_at range_of applies value
returns-in-7 c = λ T m. rw (c.in-7.is, add-zero)

pub returns-in-8 : goal.returns-in-8
unfolding forms form_at range_of applies value
returns-in-8 c = λ T m. rw (c.in-8.is, add-zero)

pub returns-in-9 : goal.returns-in-9
unfolding forms form_at range_of applies value
returns-in-9 c = λ T m. rw (c.in-9.is, add-zero)

pub returns-in-10 : goal.returns-in-10
unfolding forms form_at range_of applies value
returns-in-10 c = λ T m. rw (c.in-10.is, add-zero)

pub returns-in-11 : goal.returns-in-11
unfolding forms form_at range_of applies value
returns-in-11 c = λ T m. rw (c.in-11.is, add-zero)

pub returns-in-12 : goal.returns-in-12
unfolding forms form_at range_of applies value
returns-in-12 c = λ T m. rw (c.in-12.is, add-zero)

pub returns-in-13 : goal.returns-in-13
unfolding forms form_at range_of applies value
returns-in-13 c = λ T m. rw (c.in-13.is, add-zero)

pub returns-in-14 : goal.returns-in-14
unfolding forms form_at range_of applies value
returns-in-14 c = λ T m. rw c.in-14.is c.asked.ensures

pub returns-in-15 : goal.returns-in-15
unfolding forms form_at range_of applies value
returns-in-15 c = λ T m. rw c.in-15.is c.asked-in-15.ensures

pub returns-in-16 : goal.returns-in-16
unfolding forms form_at range_of applies value
returns-in-16 c = λ T m. rw c.in-16.is c.asked-in-16.ensures

pub returns-in_default : goal.returns-in_default
unfolding forms form_at range_of applies value
returns-in_default c =
    let s = (goal.at.returns-in_default c).Start in
    let last : s.args.form ≡ 17 = only 17 s.requires.1 (past 3 14 s.requires.0 c.in_default.in_default-own.rest) in
    λ T m. rw (last, add-zero, ← c.call_shape_is_closure.ensures) c.asked-in_default.ensures
