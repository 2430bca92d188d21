use Rattle.unit.specs.Refusal.{test_number}
use Rattle.std.proofs.Common.{ap, ◌<◌, length, ◌∙◌, arith}
use Rattle.flow.specs.Branch.{branch_check_in}
use Rattle.answer.specs.Answer.{cells_of}
use Rattle.effects.specs.laws.Unrefused.{clear_first, clear_none, clear_later, clear_with}
use Rattle.desk.proofs.laws.Checking.{places, places_few, read_cell, branch_tested}
use Rattle.desk.proofs.check.check_branches.Goals as goal

pub loop-p-init : goal.loop-p-init
loop-p-init c = clear_first

pub overflow_add-n : goal.overflow_add-n
overflow_add-n c = omega arith

pub branch_refusal-requires : goal.branch_refusal-requires
branch_refusal-requires c =
    record { place = omega (arith, c.loop-p-test.true, places c.args.unit.now c.requires.laid c.code-code.ensures, places_few c.args.unit.now (λ i. omega (arith, c.type_inv.unit i))) }

pub overflow_cast-p : goal.overflow_cast-p
overflow_cast-p c =
    omega (arith, c.loop-p-test.true, places c.args.unit.now c.requires.laid c.code-code.ensures, places_few c.args.unit.now (λ i. omega (arith, c.type_inv.unit i)))

pub returns-in-Some : goal.returns-in-Some
unfolding branch_check_in
returns-in-Some c =
    let u = c.args.unit.now in
    let code = c.code-code.ensures in
    let all = places u c.requires.laid code in
    let inside : c.loop-p.p < length (cells_of u) = omega (arith, c.loop-p-test.true, all) in
    record { answer = clear_with c.loop-p.invariant inside (branch_tested c.loop-p.p c.branch_refusal.ensures.refusal all (c.read.ensures ∙ read_cell u c.loop-p.p code inside)) c.in-Some.reason (ap test_number c.in-Some.is) c.at.ensures.refusal }

pub loop-p-preserved : goal.loop-p-preserved
loop-p-preserved c =
    let u = c.args.unit.now in
    let code = c.code-code.ensures in
    let all = places u c.requires.laid code in
    let inside : c.loop-p.p < length (cells_of u) = omega (arith, c.loop-p-test.true, all) in
    clear_later c.loop-p.invariant inside (branch_tested c.loop-p.p c.branch_refusal.ensures.refusal all (c.read.ensures ∙ read_cell u c.loop-p.p code inside)) (ap test_number c.in_default.is)

pub returns : goal.returns
unfolding branch_check_in
returns c = record { answer = clear_none c.loop-p.invariant (omega (arith, c.loop-p-test.false, places c.args.unit.now c.requires.laid c.code-code.ensures)) }
