use Rattle.unit.specs.Refusal.{test_number}
use Rattle.std.proofs.Common.{ap, ◌≡◌, ℕ, false, eqb, List, get_or}
use mathlib.Core.Bool.{and-false}
use Rattle.instruction.specs.Instruction.{class, of_word}
use Rattle.effects.specs.laws.Cells.{cell_of, cells_long}
use Rattle.flow.specs.laws.Control.{is_control, no_loop_hint}
use Rattle.flow.specs.laws.Hints.{loop_test}
use Rattle.flow.specs.Loop.{loop_check}
use Rattle.flow.specs.laws.ControlSweep.{swept_first, swept_none, swept_later, swept_with}
use Rattle.flow.proofs.hint.check_loops.Goals as goal

-- what is no control place is not refused
idle : (marks metadata : List ℕ) (n p w : ℕ) → is_control (class (of_word w)) ≡ false → loop_test marks n p (cell_of metadata p w) ≡ 0
idle marks metadata n p w e = rw (no_loop_hint (of_word w) e, and-false (eqb (get_or marks p 0) 1))

pub loop-place-init : goal.loop-place-init
loop-place-init c = swept_first c.requires.3 (idle _ _ _)

pub returns-in-Some : goal.returns-in-Some
unfolding loop_check
returns-in-Some c = swept_with c.requires.3 (idle _ _ _) c.loop-place.invariant c.loop-place-test.true (rw cells_long c.loop_refusal.ensures) c.in-Some.reason (ap test_number c.in-Some.is) c.at.ensures.refusal

pub loop-place-preserved : goal.loop-place-preserved
loop-place-preserved c = swept_later c.requires.3 (idle _ _ _) c.loop-place.invariant c.loop-place-test.true (rw cells_long c.loop_refusal.ensures) (ap test_number c.in_default.is)

pub returns : goal.returns
unfolding loop_check
returns c = swept_none c.requires.3 (idle _ _ _) c.loop-place.invariant c.loop-place-test.false
