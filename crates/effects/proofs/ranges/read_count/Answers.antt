use mathlib.Core.Path.{sym}
use Rattle.effects.specs.laws.Ranges.{case_reads_long}
use Rattle.effects.proofs.laws.Ranges.{reads_select, read_count_row}
use Rattle.effects.proofs.ranges.read_count.Goals as goal

pub returns-then-op-eq-SELECT_EXEC : goal.returns-then-op-eq-SELECT_EXEC
returns-then-op-eq-SELECT_EXEC c =
    let a = c.args in
    let x = a.x in
    λ T. rw (reads_select T x c.if-op-eq-SELECT_EXEC.true, case_reads_long T.cases a.x.metadata.first a.x.metadata.second)

pub returns : goal.returns
returns c =
    let a = c.args in
    let x = a.x in
    λ T. sym (read_count_row T x c.row.result c.row.ensures c.if-op-eq-SELECT_EXEC.false)
