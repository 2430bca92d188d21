use mathlib.Core.Path.{◌≡◌}
use native.Mathlib.Nat.{add-zero}
use native.Mathlib.Omega.{arith}
use Rattle.words.specs.laws.Word.{halves}
use Rattle.effects.specs.Shape.{range_of, applies, value}
use Rattle.effects.specs.laws.Form.{form_at, forms}
use Rattle.words.specs.laws.Keys.{past, only}
use Rattle.effects.proofs.form.layout_range.Goals as goal
use Rattle.effects.proofs.form.layout_range.Goals.{Start}

pub overflow_mul-array : goal.overflow_mul-array
overflow_mul-array c = record { fits = halves (omega arith) (omega arith) }

pub returns-in-18 : goal.returns-in-18
unfolding forms form_at range_of applies value
returns-in-18 c = λ T. rw (c.in-18.is, add-zero)

pub returns-in-19 : goal.returns-in-19
unfolding forms form_at range_of applies value
returns-in-19 c = λ T. rw (c.in-19.is, add-zero)

pub returns-in-20 : goal.returns-in-20
unfolding forms form_at range_of applies value
returns-in-20 c = λ T. rw (c.in-20.is, add-zero)

pub returns-in-21 : goal.returns-in-21
unfolding forms form_at range_of applies value
returns-in-21 c = λ T. rw c.in-21.is

pub returns-in-22 : goal.returns-in-22
unfolding forms form_at range_of applies value
returns-in-22 c = λ T. rw (c.in-22.is, add-zero)

pub returns-in-23 : goal.returns-in-23
unfolding forms form_at range_of applies value
returns-in-23 c = λ T. rw c.in-23.is

pub returns-in-24 : goal.returns-in-24
unfolding forms form_at range_of applies value
returns-in-24 c = λ T. rw (c.in-24.is, add-zero)

pub returns-in-25 : goal.returns-in-25
unfolding forms form_at range_of applies value
returns-in-25 c = λ T. rw (c.in-25.is, add-zero)

pub returns-in-26 : goal.returns-in-26
unfolding forms form_at range_of applies value
returns-in-26 c = λ T. rw (c.in-26.is, add-zero)

pub returns-in-27 : goal.returns-in-27
unfolding forms form_at range_of applies value
returns-in-27 c = λ T. rw (c.in-27.is, add-zero)

pub returns-in_default : goal.returns-in_default
unfolding forms form_at range_of applies value
returns-in_default c =
    let s = (goal.at.returns-in_default c).Start in
    let last : s.args.form ≡ 28 = only 28 s.requires.1 (past 18 10 s.requires.0 c.in_default.in_default-own.rest) in
    λ T. rw (last, add-zero)
