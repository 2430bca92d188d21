use borrow.Author.Tests.{ne_eqb, lt-ltb}
use Rattle.effects.specs.Shape.{met}
use Rattle.effects.specs.laws.Form.{demand_at}
use Rattle.effects.proofs.demand.is_met.Goals as goal

pub returns-then-demand-eq0 : goal.returns-then-demand-eq0
unfolding demand_at met
returns-then-demand-eq0 c = λ cases. rw c.if-demand-eq0.true

pub returns-then-demand-lt16 : goal.returns-then-demand-lt16
unfolding demand_at met
returns-then-demand-lt16 c = λ cases. rw (ne_eqb _ 0 c.if-demand-eq0.false, lt-ltb _ 16 c.if-demand-lt16.true)
