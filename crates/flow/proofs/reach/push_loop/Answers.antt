use Rattle.flow.proofs.Pushing.{push_no_hint, push_unsound, push_sound}
use Rattle.flow.proofs.reach.push_loop.Goals as goal

pub returns-then-is_sound : goal.returns-then-is_sound
returns-then-is_sound c =
    let second = c.before.before in
    let first = second.before.before.before.before.before in
    let s = first.before.before.before.before in
    let l = s.before.before.before in
    let a = l.args in
    push_sound _ _ _ a.i _ _ _ l.is_loop_hint.ensures _ _ s.metadata-d.ensures s.is_sound.ensures s.if-is_loop_hint.true _ first.if-is_sound.true second.imm32_unsigned.ensures first.push_if-end.ensures second.push_if.ensures

pub returns-else-is_sound : goal.returns-else-is_sound
returns-else-is_sound c =
    let s = c.before in
    let l = s.before.before.before in
    let a = l.args in
    push_unsound _ _ _ a.i _ _ _ l.is_loop_hint.ensures _ _ s.metadata-d.ensures s.is_sound.ensures s.if-is_loop_hint.true c.if-is_sound.false

pub returns-else-is_loop_hint : goal.returns-else-is_loop_hint
returns-else-is_loop_hint c =
    let l = c.before in
    let a = l.args in
    push_no_hint _ _ _ a.i _ _ _ l.is_loop_hint.ensures c.if-is_loop_hint.false
