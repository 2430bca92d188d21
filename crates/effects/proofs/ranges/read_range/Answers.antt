use mathlib.Core.Path.{◌≡◌}
use Prim.Native.Nat.{◌*◌, ◌%◌, ◌≤◌, ◌<◌}
use native.Mathlib.Omega.{arith}
use lib.ListN.{length}
use Rattle.effects.specs.Shape.{Tables, tables_in}
use Rattle.effects.specs.Effects.{all_reads}
use Rattle.effects.specs.laws.TableRows.{reads_few}
use Rattle.effects.specs.laws.Ranges.{case_reads_long}
use Rattle.effects.proofs.laws.Ranges.{reads_select, read_count_row, read_at_row}
use Rattle.effects.proofs.ranges.read_range.Goals as goal

pub case_read-requires : goal.case_read-requires
case_read-requires c =
    let a = c.args in
    let x = a.x in
    let T : Tables = tables_in a.tables in
    let long : length (all_reads T x) ≡ 2 * a.x.metadata.second = rw (reads_select T x c.if-op-eq-SELECT_EXEC.true) (case_reads_long a.tables.cases.now a.x.metadata.first a.x.metadata.second) in
    (omega (arith, c.requires.0), c.requires.1 c.if-op-eq-SELECT_EXEC.true)

pub returns-then-op-eq-SELECT_EXEC : goal.returns-then-op-eq-SELECT_EXEC
returns-then-op-eq-SELECT_EXEC c =
    let a = c.args in
    let x = a.x in
    let T : Tables = tables_in a.tables in
    rw (reads_select T x c.if-op-eq-SELECT_EXEC.true) c.case_read.ensures

pub form_at-form-requires : goal.form_at-form-requires
form_at-form-requires c =
    let a = c.args in
    let x = a.x in
    let T : Tables = tables_in a.tables in
    let few : c.row.result % 16 ≤ 4 = rw c.row.ensures (reads_few a.x.instruction.op) in
    omega (arith, read_count_row T x c.row.result c.row.ensures c.if-op-eq-SELECT_EXEC.false, c.requires.0)

pub returns : goal.returns
returns c =
    let a = c.args in
    let x = a.x in
    let T : Tables = tables_in a.tables in
    let row = c.row in
    let other = c.if-op-eq-SELECT_EXEC.false in
    let inside : a.k < row.result % 16 = omega (arith, read_count_row T x row.result row.ensures other, c.requires.0) in
    rw (read_at_row T x row.result row.ensures other a.k inside, ← c.form_at-form.ensures) (c.range_of.ensures a.tables.cases.now)
