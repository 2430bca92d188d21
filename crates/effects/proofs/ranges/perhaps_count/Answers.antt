use mathlib.Core.Path.{sym, ◌∙◌}
use native.Mathlib.Omega.{arith}
use Rattle.effects.specs.laws.Ranges.{case_writes_long}
use Rattle.effects.proofs.laws.Ranges.{perhaps_select, perhaps_next, perhaps_none}
use Rattle.effects.proofs.ranges.perhaps_count.Goals as goal

pub returns-in-105 : goal.returns-in-105
returns-in-105 c =
    let a = c.args in
    let x = a.x in
    λ T. rw (perhaps_select T x c.in-105.is, case_writes_long T.cases a.x.metadata.first a.x.metadata.second)

pub returns-in-95 : goal.returns-in-95
returns-in-95 c =
    let a = c.args in
    let x = a.x in
    λ T. rw (perhaps_next T x (λ e. let z = sym e ∙ c.in-95.is in absurd (omega arith)) c.in-95.is)

pub returns-in_default : goal.returns-in_default
returns-in_default c =
    let a = c.args in
    let x = a.x in
    λ T. rw (perhaps_none T x c.in_default.in_default-own.rest.0.1 c.in_default.in_default-own.rest.1)
