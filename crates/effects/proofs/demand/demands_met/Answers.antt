use Rattle.effects.specs.Shape.{Tables, tables_with, met}
use Rattle.effects.specs.laws.Form.{demand_at}
use Rattle.effects.proofs.laws.Ranges.{demands_row}
use Rattle.effects.proofs.demand.demands_met.Goals as goal

pub returns-then-row-eq0 : goal.returns-then-row-eq0
unfolding demand_at met
returns-then-row-eq0 c =
    let a = c.args in
    let x = a.x in
    λ cases.
    let T : Tables = tables_with cases a.callees in
    rw (demands_row T x c.demand_row-row.result c.demand_row-row.ensures, c.if-row-eq0.true)

pub returns : goal.returns
returns c =
    let a = c.args in
    let x = a.x in
    λ cases.
    let T : Tables = tables_with cases a.callees in
    cc (demands_row T x c.demand_row-row.result c.demand_row-row.ensures, c.is_met-3.ensures cases, c.is_met-2.ensures cases, c.is_met.ensures cases)
