use Rattle.std.proofs.Common.{◌≡◌, ℕ, ◌+◌, ◌-◌, length, arith}
use Rattle.flow.specs.laws.Control.{control_inside, at_control, skip_first, skip_next, skip_last}
use Rattle.flow.proofs.Anchored.{Anchored, anchored_begin, zeroed_long, zeroed_outside, anchored_turn, anchored_idle, anchored_end}
use Rattle.flow.proofs.hint.mark_anchors.Goals as goal

part_long : (at n : ℕ) → at + n - at ≡ n
part_long at n = omega arith

pub loop-place-init : goal.loop-place-init
loop-place-init c =
    let a = c.args in
    skip_first c.requires.4 (Anchored _ _ _ _ _) (anchored_idle _ _ _ _ _)
    (anchored_begin _ _ _ _ c.requires.2 c.requires.3 _ (part_long a.at (length a.words.now)) _ (c.fill.ensures.after (λ y e. e)))

pub loop-place-preserved : goal.loop-place-preserved
loop-place-preserved c =
    let list = c.requires.4 in
    let more = c.loop-place-test.true in
    let here = at_control list (Anchored _ _ _ _ _) _ more c.loop-place.invariant in
    skip_next list (Anchored _ _ _ _ _) (anchored_idle _ _ _ _ _) _ more
    (anchored_turn _ _ _ _ c.requires.2 (omega arith) _ (part_long _ _) _ _ _ _ here (control_inside list _ more) c.from_word-i.ensures c.mark_end.auto.ends c.mark_end.ensures)

pub returns : goal.returns
returns c =
    let a = c.args in
    let zeroed = c.fill.ensures.after (λ y e. e) in
    let part = part_long a.at (length a.words.now) in
    let outside = zeroed_outside a.words.now a.metadata.now a.work.now a.at c.requires.2 c.requires.3 _ part _ zeroed in
    let long = zeroed_long a.words.now a.metadata.now a.work.now a.at c.requires.2 c.requires.3 _ part _ zeroed in
    let end = skip_last c.requires.4 (Anchored _ _ _ _ _) (anchored_idle _ _ _ _ _) _ c.loop-place-test.false c.loop-place.invariant in
    anchored_end a.words.now a.metadata.now _ a.at c.requires.2 (rw long c.requires.3) _ _ _ outside end (omega arith)
