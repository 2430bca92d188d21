use Rattle.unit.specs.Refusal.{test_number}
use Rattle.std.proofs.Common.{ap, ◌<◌, length, arith}
use Rattle.answer.specs.Answer.{cells_of}
use Rattle.effects.specs.Check.{operand_check}
use Rattle.effects.specs.laws.Unrefused.{clear_first, clear_none, clear_later, clear_with}
use Rattle.desk.proofs.laws.Checking.{places, places_few, found, operand_met, operand_tested}
use Rattle.desk.proofs.check.check_operands.Goals as goal

pub loop-p-init : goal.loop-p-init
loop-p-init c = clear_first

pub operand_refusal-refused-requires : goal.operand_refusal-refused-requires
operand_refusal-refused-requires c =
    let f = found c.requires.laid c.requires.counted (λ i. omega (arith, c.type_inv.unit i)) c.code-code.ensures c.metadata-metadata.ensures c.types-locals.ensures c.of_unit-tables.ensures.functions c.of_unit-tables.ensures.externs c.of_unit-tables.ensures.cases in
    operand_met f _ (omega (arith, c.loop-p-test.true, places c.args.unit.now f.laid f.code_found))

pub overflow_cast-p : goal.overflow_cast-p
overflow_cast-p c =
    omega (arith, c.loop-p-test.true, places c.args.unit.now c.requires.laid c.code-code.ensures, places_few c.args.unit.now (λ i. omega (arith, c.type_inv.unit i)))

pub returns-in-Some : goal.returns-in-Some
unfolding operand_check
returns-in-Some c =
    let f = found c.requires.laid c.requires.counted (λ i. omega (arith, c.type_inv.unit i)) c.code-code.ensures c.metadata-metadata.ensures c.types-locals.ensures c.of_unit-tables.ensures.functions c.of_unit-tables.ensures.externs c.of_unit-tables.ensures.cases in
    let inside : c.loop-p.p < length (cells_of c.args.unit.now) = omega (arith, c.loop-p-test.true, places c.args.unit.now f.laid f.code_found) in
    record { answer = clear_with c.loop-p.invariant inside (operand_tested f inside c.operand_refusal-refused.ensures c.word-w.ensures c.read.ensures) c.in-Some.reason (ap test_number c.in-Some.is) c.at.ensures.refusal }

pub loop-p-preserved : goal.loop-p-preserved
loop-p-preserved c =
    let f = found c.requires.laid c.requires.counted (λ i. omega (arith, c.type_inv.unit i)) c.code-code.ensures c.metadata-metadata.ensures c.types-locals.ensures c.of_unit-tables.ensures.functions c.of_unit-tables.ensures.externs c.of_unit-tables.ensures.cases in
    let inside : c.loop-p.p < length (cells_of c.args.unit.now) = omega (arith, c.loop-p-test.true, places c.args.unit.now f.laid f.code_found) in
    clear_later c.loop-p.invariant inside (operand_tested f inside c.operand_refusal-refused.ensures c.word-w.ensures c.read.ensures) (ap test_number c.in_default.is)

pub returns : goal.returns
unfolding operand_check
returns c = record { answer = clear_none c.loop-p.invariant (omega (arith, c.loop-p-test.false, places c.args.unit.now c.requires.laid c.code-code.ensures)) }
