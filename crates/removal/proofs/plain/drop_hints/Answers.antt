use mathlib.Core.Path.{◌≡◌, ◌∙◌, sym, ap}
use Prim.Native.Nat.{◌+◌}
use native.Mathlib.Omega.{arith}
use lib.ListN.{get_or}
use Rattle.flow.specs.laws.Control.{control_inside, at_control, skip_first, skip_next, skip_last}
use Rattle.flow.specs.Loop.{is_plain_hint}
use Rattle.removal.specs.laws.Cleared.{Cleared, step_on, step_off, cleared_none, cleared_up}
use Rattle.removal.specs.laws.PlainHints.{hint_at, hints_idle, hints_dropped}
use Rattle.removal.proofs.plain.drop_hints.Goals as goal
use Rattle.removal.proofs.plain.drop_hints.Goals.{then-is_plain_hint, else-is_plain_hint}

pub loop-place-init : goal.loop-place-init
loop-place-init c = skip_first c.requires.2 (Cleared _ _ _ _) (hints_idle c.args.words.now _ _) (cleared_none _ _ 0)

pub offset_bounds-words-p : goal.offset_bounds-words-p
offset_bounds-words-p c = omega (arith, control_inside c.requires.2 _ c.loop-place-test.true, c.requires.1)

pub bounds-words-p : goal.bounds-words-p
bounds-words-p c = control_inside c.requires.2 _ c.loop-place-test.true

pub loop-place-preserved : goal.loop-place-preserved
loop-place-preserved c =
    let list = c.requires.2 in
    let more = c.loop-place-test.true in
    let words = c.args.words.now in
    let p = get_or c.args.list.now c.loop-place.place-index 0 in
    let hint : c.is_plain_hint.result ≡ hint_at words p = c.is_plain_hint.ensures ∙ ap is_plain_hint c.from_word.ensures in
    let here : Cleared (hint_at words) c.args.keep.now c.loop-place.keep 0 p = at_control list (Cleared _ _ _ _) _ more c.loop-place.invariant in
    let next : Cleared (hint_at words) c.args.keep.now c.if-is_plain_hint.keep 0 (p + 1) =
    cleared_up here (omega arith)
    (elim c.if-is_plain_hint.branch [
      | then-is_plain_hint w ↦ rw w.keep-is (step_on p (omega (arith, control_inside list _ more, here.long, c.requires.0)) (sym hint ∙ w.if-is_plain_hint.true))
      | else-is_plain_hint w ↦ rw w.keep-is (step_off p (here.rest p (λ a b. omega arith)) (sym hint ∙ w.if-is_plain_hint.false))
    ]) in
    skip_next list (Cleared _ _ _ _) (hints_idle words _ _) _ more next

pub returns : goal.returns
returns c metadata =
    hints_dropped _ _ _ metadata c.requires.0 (skip_last c.requires.2 (Cleared _ _ _ _) (hints_idle c.args.words.now _ _) _ c.loop-place-test.false c.loop-place.invariant)
