use Rattle.std.proofs.Common.{refl, ◌∙◌, arith, length-set}
use Rattle.flow.specs.laws.Control.{control_inside, at_control, skip_first, skip_next, skip_last}
use Rattle.flow.specs.laws.Leaders.{Leading, leading_begin, leading_turn, leading_idle, leading_end}
use Rattle.flow.proofs.block.mark_leaders.Goals as goal

pub loop-place-init : goal.loop-place-init
loop-place-init c = (
  length-set c.fill.new.self 0 1 ∙ c.fill.ensures.len ∙ c.requires.2,
  λ metadata. skip_first c.requires.3 (Leading _ metadata _) (leading_idle _ metadata _) (leading_begin _ metadata _ _ (c.fill.ensures.after (λ y e. e)) c.requires.2),
)

pub offset_bounds-words-p : goal.offset_bounds-words-p
offset_bounds-words-p c = omega (arith, control_inside c.requires.3 _ c.loop-place-test.true, c.requires.1)

pub bounds-words-p : goal.bounds-words-p
bounds-words-p c = control_inside c.requires.3 _ c.loop-place-test.true

pub mark_starts-requires : goal.mark_starts-requires
mark_starts-requires c = omega (arith, control_inside c.requires.3 _ c.loop-place-test.true, c.requires.1)

pub loop-place-preserved : goal.loop-place-preserved
loop-place-preserved c =
    let list = c.requires.3 in
    let more = c.loop-place-test.true in (
      c.mark_starts.auto.marks ∙ c.loop-place.invariant.0,
      λ metadata.
          let here = at_control list (Leading _ metadata _) _ more (c.loop-place.invariant.1 metadata) in
          skip_next list (Leading _ metadata _) (leading_idle _ metadata _) _ more (leading_turn _ metadata _ _ _ _ here (control_inside list _ more) c.from_word.ensures c.mark_starts.ensures),
    )

pub returns : goal.returns
returns c = λ metadata. leading_end _ metadata _ _ (skip_last c.requires.3 (Leading _ metadata _) (leading_idle _ metadata _) _ c.loop-place-test.false (c.loop-place.invariant.1 metadata)) refl
