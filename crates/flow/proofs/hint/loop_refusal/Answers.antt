use Rattle.std.proofs.Common.{◌≡◌, get_or, sym, ap, ◌∙◌, ne_eqb}
use mathlib.Core.Bool.{and-false}
use Rattle.instruction.specs.Instruction.{of_word}
use Rattle.flow.specs.Loop.{is_loop_hint}
use Rattle.flow.proofs.hint.loop_refusal.Goals as goal
use Rattle.flow.proofs.hint.loop_refusal.Tie as tie
use Rattle.flow.proofs.hint.loop_refusal.Lts
use Rattle.flow.proofs.hint.loop_refusal.Reads

abbrev After-is_loop_hint : Type 0
After-is_loop_hint = Lts.After-is_loop_hint tie.the-claims Reads.Pre Reads.Post

-- is it a loop hint?
is-hint : (l : After-is_loop_hint) → let a = l.args in is_loop_hint (of_word (get_or a.words.now a.p 0)) ≡ l.is_loop_hint.result
is-hint l = ap is_loop_hint (sym l.from_word.ensures) ∙ sym l.is_loop_hint.ensures

pub returns-then-not-is_loop_hint : goal.returns-then-not-is_loop_hint
returns-then-not-is_loop_hint c = rw (is-hint c.before.before ∙ c.if-not-is_loop_hint.true, and-false)

pub returns-then-not-is_sound : goal.returns-then-not-is_sound
returns-then-not-is_sound c =
    let s = c.before.before in
    let m = s.before.before in
    rw (m.if-marks-p-eq1.true, is-hint m.before.before.before ∙ m.if-not-is_loop_hint.false, ← s.metadata.ensures, ← s.is_sound.ensures, c.if-not-is_sound.true)

pub returns-else-not-is_sound : goal.returns-else-not-is_sound
returns-else-not-is_sound c =
    let s = c.before.before in
    let m = s.before.before in
    rw (m.if-marks-p-eq1.true, is-hint m.before.before.before ∙ m.if-not-is_loop_hint.false, ← s.metadata.ensures, ← s.is_sound.ensures, c.if-not-is_sound.false)

pub returns-else-marks-p-eq1 : goal.returns-else-marks-p-eq1
returns-else-marks-p-eq1 c = rw (ne_eqb _ 1 c.if-marks-p-eq1.false)
