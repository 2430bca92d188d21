use borrow.Author.Tests.{eq-eqb, ne_eqb}
use Rattle.effects.specs.laws.Ranges.{case_writes_at}
use Rattle.effects.proofs.select.case_write.Goals as goal

pub returns-then-x-eq-SEND : goal.returns-then-x-eq-SEND
returns-then-x-eq-SEND c =
    let a = c.args in
    rw (case_writes_at a.cases.now a.m.first a.m.second a.k c.requires.0, ← c.select_case-x.ensures, eq-eqb _ 0 c.if-x-eq-SEND.true)

pub returns : goal.returns
returns c =
    let a = c.args in
    rw (case_writes_at a.cases.now a.m.first a.m.second a.k c.requires.0, ← c.select_case-x.ensures, ne_eqb _ 0 c.if-x-eq-SEND.false)
