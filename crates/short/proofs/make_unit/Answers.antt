use Rattle.std.specs.Prelude.{Err}
use mathlib.Core.Path.{refl, ap, ◌∙◌}
use native.Mathlib.Omega.{arith}
use Rattle.short.specs.Short.{first_of}
use Rattle.short.specs.laws.Ranks.{parts}
use Rattle.short.proofs.Making.{Known, none_made, few, first_below, short_made, unit_made, written_long, written_more, none_written}
use Rattle.short.proofs.make_unit.Goals as goal
use Rattle.short.proofs.make_unit.Goals.{After-unit_size-end, After-first_of}

-- what the tests and calls told
sized : (c : After-unit_size-end) → Known c.args.number c.length_of-n.result (first_of c.length_of-n.result) c.unit_size-end.result
sized c = record { some = c.if-number-ge-COUNT.false; length_is = c.length_of-n.ensures; first_is = refl; end_is = c.unit_size-end.ensures }

known : (c : After-first_of) → Known c.args.number c.length_of-n.result c.first_of.result c.unit_size-end.result
known c = record { some = c.if-number-ge-COUNT.false; length_is = c.length_of-n.ensures; first_is = c.first_of.ensures; end_is = c.unit_size-end.ensures }

pub returns-then-number-ge-COUNT : goal.returns-then-number-ge-COUNT
returns-then-number-ge-COUNT c = none_made _ _ c.if-number-ge-COUNT.true

pub unit_size-end-requires : goal.unit_size-end-requires
unit_size-end-requires c = rw c.length_of-n.ensures (parts c.args.number c.if-number-ge-COUNT.false).four

pub returns-then-out-end : goal.returns-then-out-end
returns-then-out-end c = let all = short_made (sized (goal.at.returns-then-out-end c).After-unit_size-end) _ c.if-out-end.true in (ap Err c.at.ensures.refusal ∙ all.0, all.1)

pub overflow_sub-rank : goal.overflow_sub-rank
overflow_sub-rank c = first_below (known (goal.at.overflow_sub-rank c).After-first_of)

pub loop-i-init : goal.loop-i-init
loop-i-init c = none_written _ _ _ _ c.if-out-end.false

pub byte-requires : goal.byte-requires
byte-requires c = let d = known (goal.at.byte-requires c).After-first_of in (few d, rw d.end_is at c.loop-i-test.true)

pub bounds-out-i : goal.bounds-out-i
bounds-out-i c =
    let w = c.loop-i.invariant in
    let room = w.room in
    let low = c.loop-i-test.true in
    rw (written_long w) (omega arith)

pub loop-i-preserved : goal.loop-i-preserved
loop-i-preserved c = written_more c.loop-i.invariant c.loop-i-test.true _ c.byte.ensures

pub shape_of-out : goal.shape_of-out
shape_of-out c = written_long c.loop-i.invariant

pub returns : goal.returns
returns c = unit_made (known (goal.at.returns c).After-first_of) _ c.loop-i.invariant.room _ _ c.loop-i-test.false c.loop-i.invariant

pub overflow_cast-result : goal.overflow_cast-result
overflow_cast-result c = let d = known (goal.at.overflow_cast-result c).After-first_of in let n = few d in omega (arith, d.end_is)
