use Rattle.std.proofs.Common.{◌≡◌, ℕ, ◌<◌, length, sym, ap, ◌∙◌, arith}
use Rattle.instruction.specs.declared.Class.{Class}
use Rattle.instruction.specs.Class.{number_of, named_class}
use Rattle.instruction.specs.laws.Class.{named_number}
use Rattle.answer.specs.Answer.{cells_of}
use Rattle.desk.proofs.laws.Checking.{places, places_few}
use Rattle.desk.proofs.laws.Unit.{place_inside, At, at_end, at_other, at_limit, at_return, at_panic, at_going}
use Rattle.desk.proofs.execution.stop_at.Goals as goal
use Rattle.desk.proofs.execution.stop_at.Goals.{After-is_executed, Else-p-code}

-- not behind the last instruction
inside : (c : Else-p-code) → c.args.p < length (cells_of c.args.unit.now)
inside c = omega (arith, c.if-p-code.false, places c.args.unit.now c.requires.laid c.code-code.ensures)

at : (c : After-is_executed) → c.args.p < length (cells_of c.args.unit.now) → At c.args.unit.now c.code-code.result.now c.constants.result.now c.args.p
at c i = record { laid = c.requires.laid; code_found = c.code-code.ensures; constants_found = c.constants.ensures; inside = i }

pub returns-then-p-code : goal.returns-then-p-code
returns-then-p-code c =
    record { answer = λ f. at_end c.args.unit.now _ _ f (omega (arith, c.if-p-code.true, places c.args.unit.now c.requires.laid c.code-code.ensures)) }

pub is_executed-requires : goal.is_executed-requires
is_executed-requires c = record { code = place_inside c.args.unit.now c.requires.laid _ _ c.code-code.ensures (inside (goal.at.is_executed-requires c).Else-p-code) }

pub overflow_cast-result : goal.overflow_cast-result
overflow_cast-result c =
    omega (arith, places_few c.args.unit.now (λ i. omega (arith, c.type_inv.unit i)), inside (goal.at.overflow_cast-result c).Else-p-code)

pub returns-then-not-is_executed : goal.returns-then-not-is_executed
returns-then-not-is_executed c =
    let way = goal.at.returns-then-not-is_executed c in
    record { answer = λ f. at_other (at way.After-is_executed (inside way.Else-p-code)) _ f (sym (c.is_executed.ensures.answer f) ∙ c.if-not-is_executed.true) }

pub returns-then-left-eq0 : goal.returns-then-left-eq0
returns-then-left-eq0 c =
    let way = goal.at.returns-then-left-eq0 c in
    record { answer = λ f. at_limit (at way.After-is_executed (inside way.Else-p-code)) _ f (sym (c.is_executed.ensures.answer f) ∙ c.if-not-is_executed.false) c.if-left-eq0.true }

pub read-i-requires : goal.read-i-requires
read-i-requires c = place_inside c.args.unit.now c.requires.laid _ _ c.code-code.ensures (inside (goal.at.read-i-requires c).Else-p-code)

pub returns-in-Return : goal.returns-in-Return
unfolding number_of
returns-in-Return c =
    let way = goal.at.returns-in-Return c in
    record { answer = λ f. at_return (at way.After-is_executed (inside way.Else-p-code)) _ f c.read-i.ensures (omega (arith, c.if-left-eq0.false)) (rw (← c.class.ensures, c.in-Return.is)) }

pub returns-in-Panic : goal.returns-in-Panic
unfolding number_of
returns-in-Panic c =
    let way = goal.at.returns-in-Panic c in
    record { answer = λ f. at_panic (at way.After-is_executed (inside way.Else-p-code)) _ f c.read-i.ensures (omega (arith, c.if-left-eq0.false)) (rw (← c.class.ensures, c.in-Panic.is)) }

-- the class that has the number k
named : (x : Class) (k : ℕ) → number_of x ≡ k → x ≡ named_class k
named x k e = sym (named_number x) ∙ ap named_class e

pub returns-in_default : goal.returns-in_default
unfolding named_class
returns-in_default c =
    let way = goal.at.returns-in_default c in
    record {
      answer = λ f. at_going (at way.After-is_executed (inside way.Else-p-code)) _ f c.read-i.ensures (sym (c.is_executed.ensures.answer f) ∙ c.if-not-is_executed.false)
          (λ n. c.in_default.not-Return (c.class.ensures ∙ named _ 11 n))
          (λ n. c.in_default.not-Panic (c.class.ensures ∙ named _ 12 n));
    }
