use borrow.Author.Tests.{eq-eqb, ne_eqb}
use Rattle.effects.proofs.laws.Ranges.{case_reads_at}
use Rattle.effects.proofs.select.case_read.Goals as goal

pub returns-then-k-eq0 : goal.returns-then-k-eq0
returns-then-k-eq0 c =
    let a = c.args in
    rw (case_reads_at a.cases.now a.m.first a.m.second a.k c.requires.0, ← c.select_case-x.ensures, eq-eqb _ 0 c.if-k-eq0.true)

pub returns-then-x-eq-SEND : goal.returns-then-x-eq-SEND
returns-then-x-eq-SEND c =
    let a = c.args in
    rw (case_reads_at a.cases.now a.m.first a.m.second a.k c.requires.0, ← c.select_case-x.ensures, ne_eqb _ 0 c.if-k-eq0.false, eq-eqb _ 0 c.if-x-eq-SEND.true)

pub returns : goal.returns
returns c =
    let a = c.args in
    rw (case_reads_at a.cases.now a.m.first a.m.second a.k c.requires.0, ← c.select_case-x.ensures, ne_eqb _ 0 c.if-k-eq0.false, ne_eqb _ 0 c.if-x-eq-SEND.false)
