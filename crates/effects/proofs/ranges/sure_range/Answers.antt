use Prim.Native.Nat.{◌/◌, ◌%◌, ◌≤◌, ◌<◌}
use native.Mathlib.Omega.{arith}
use Rattle.std.proofs.Common.{[]}
use Rattle.effects.specs.Shape.{Tables, tables_with}
use Rattle.effects.specs.laws.TableRows.{writes_few}
use Rattle.effects.proofs.laws.Ranges.{sure_count_row, sure_at_row}
use Rattle.effects.proofs.ranges.sure_range.Goals as goal
use Rattle.effects.proofs.ranges.sure_range.Goals.{Start}

pub form_at-form-requires : goal.form_at-form-requires
form_at-form-requires c =
    let s = (goal.at.form_at-form-requires c).Start in
    let T : Tables = tables_with [] s.args.callees in
    let x = s.args.x in
    let few : c.row.result / 16 % 16 ≤ 2 = rw c.row.ensures (writes_few s.args.x.instruction.op) in
    omega (arith, sure_count_row T x c.row.result c.row.ensures, s.requires)

pub returns : goal.returns
returns c =
    let s = (goal.at.returns c).Start in
    let x = s.args.x in
    let row = c.row in
    let inside : s.args.k < row.result / 16 % 16 = omega (arith, sure_count_row (tables_with [] s.args.callees) x row.result row.ensures, s.requires) in
    λ cases. rw (sure_at_row (tables_with cases s.args.callees) x row.result row.ensures s.args.k inside, ← c.form_at-form.ensures) (c.range_of.ensures cases)
