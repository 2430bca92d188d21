use mathlib.Core.Path.{◌≡◌}
use native.Mathlib.Omega.{arith}
use borrow.Author.Tests.{ne_eqb, le-ltb}
use Rattle.effects.specs.Shape.{met}
use Rattle.effects.specs.laws.Form.{demand_at}
use Rattle.effects.proofs.demand.call_met.Goals as goal

pub returns-in-16 : goal.returns-in-16
unfolding demand_at met
returns-in-16 c = λ cases. rw c.in-16.is c.is_call_layout.ensures

pub returns-in-17 : goal.returns-in-17
unfolding demand_at met
returns-in-17 c = λ cases. rw c.in-17.is c.is_result_layout.ensures

pub returns-in-18 : goal.returns-in-18
unfolding demand_at met
returns-in-18 c = λ cases. rw (c.in-18.is, ← c.callee.ensures) c.is_there.ensures

pub returns-in-19 : goal.returns-in-19
unfolding demand_at met
returns-in-19 c = λ cases. rw (c.in-19.is, ← c.extern_of.ensures) c.is_known.ensures

pub returns-in_default : goal.returns-in_default
unfolding demand_at
returns-in_default c =
    let a = c.args in
    let some : a.demand ≡ 0 → ⊥ = λ e. omega arith in
    λ cases.
    rw (
      ne_eqb a.demand 0 some,
      le-ltb a.demand 16 c.requires,
      ne_eqb a.demand 16 c.in_default.in_default-own.rest.0.0.0.1,
      ne_eqb a.demand 17 c.in_default.in_default-own.rest.0.0.1,
      ne_eqb a.demand 18 c.in_default.in_default-own.rest.0.1,
      ne_eqb a.demand 19 c.in_default.in_default-own.rest.1,
    )
    (c.call_shape_met.ensures a.callees.externs.now cases)
