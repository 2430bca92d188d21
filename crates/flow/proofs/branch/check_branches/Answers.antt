use Rattle.unit.specs.Refusal.{test_number}
use Rattle.std.proofs.Common.{ap, ◌≡◌, ℕ, false, List, refl, arith}
use Rattle.instruction.specs.Instruction.{class, of_word}
use Rattle.effects.specs.laws.Cells.{cell_of, cells_long}
use Rattle.flow.specs.laws.Block.{no_branch}
use Rattle.flow.specs.Branch.{branch_check_in}
use Rattle.flow.specs.laws.BranchLaws.{inside_none}
use Rattle.flow.specs.laws.Control.{is_control, ends_none, control_inside}
use Rattle.flow.specs.laws.ControlSweep.{swept_first, swept_none, swept_later, swept_with}
use Rattle.flow.proofs.branch.check_branches.Invariants.{branch_test}
use Rattle.flow.proofs.branch.check_branches.Goals as goal

idle : (n : ℕ) (metadata : List ℕ) (p w : ℕ) → is_control (class (of_word w)) ≡ false → branch_test n p (cell_of metadata p w) ≡ 0
idle n metadata p w e = let i = of_word w in rw (inside_none n p i (no_branch (class i) (ends_none (class i) e)))

pub loop-place-init : goal.loop-place-init
loop-place-init c = (refl, λ metadata. swept_first c.requires.1 (idle _ metadata))

pub offset_bounds-words-p : goal.offset_bounds-words-p
offset_bounds-words-p c = omega (arith, control_inside c.requires.1 _ c.loop-place-test.true, c.requires.0)

pub bounds-words-p : goal.bounds-words-p
bounds-words-p c = control_inside c.requires.1 _ c.loop-place-test.true

pub branch_refusal-requires : goal.branch_refusal-requires
branch_refusal-requires c = omega (arith, control_inside c.requires.1 _ c.loop-place-test.true, c.requires.0)

pub overflow_cast-p : goal.overflow_cast-p
overflow_cast-p c = omega (arith, control_inside c.requires.1 _ c.loop-place-test.true, c.requires.0)

pub returns-in-Some : goal.returns-in-Some
unfolding branch_check_in
returns-in-Some c = λ metadata.
    swept_with c.requires.1 (idle _ metadata) (c.loop-place.invariant.1 metadata) c.loop-place-test.true (rw (cells_long, ← c.from_word.ensures) c.branch_refusal.ensures.refusal) c.in-Some.reason (ap test_number c.in-Some.is) c.at.ensures.refusal

pub loop-place-preserved : goal.loop-place-preserved
loop-place-preserved c = (
  refl,
  λ metadata. swept_later c.requires.1 (idle _ metadata) (c.loop-place.invariant.1 metadata) c.loop-place-test.true (rw (cells_long, ← c.from_word.ensures) c.branch_refusal.ensures.refusal) (ap test_number c.in_default.is),
)

pub returns : goal.returns
unfolding branch_check_in
returns c = λ metadata. swept_none c.requires.1 (idle _ metadata) (c.loop-place.invariant.1 metadata) c.loop-place-test.false
