use mathlib.Core.Path.{◌≡◌}
use Prim.Native.Nat.{◌<◌}
use native.Mathlib.Omega.{arith}
use lib.ListN.{length}
use Rattle.std.proofs.Common.{[]}
use Rattle.effects.specs.Shape.{Tables, tables_of}
use Rattle.effects.specs.Effects.{perhaps_writes}
use Rattle.effects.specs.laws.Ranges.{case_writes_long}
use Rattle.effects.proofs.laws.Ranges.{perhaps_select, perhaps_only, perhaps_long}
use Rattle.effects.proofs.ranges.perhaps_range.Goals as goal
use Rattle.effects.proofs.ranges.perhaps_range.Goals.{Start}

pub case_write-requires : goal.case_write-requires
case_write-requires c =
    let s = (goal.at.case_write-requires c).Start in
    let x = s.args.x in
    let T : Tables = tables_of [] [] s.args.cases.now in
    let long : length (perhaps_writes T x) ≡ s.args.x.metadata.second = rw (perhaps_select T x c.if-x-eq-SELECT_EXEC.true) (case_writes_long s.args.cases.now s.args.x.metadata.first s.args.x.metadata.second) in
    (omega (arith, s.requires.0), s.requires.1 c.if-x-eq-SELECT_EXEC.true)

pub returns-then-x-eq-SELECT_EXEC : goal.returns-then-x-eq-SELECT_EXEC
returns-then-x-eq-SELECT_EXEC c =
    let a = c.args in
    let x = a.x in
    λ functions externs. rw (perhaps_select (tables_of functions externs a.cases.now) x c.if-x-eq-SELECT_EXEC.true) c.case_write.ensures

pub returns : goal.returns
returns c =
    let s = (goal.at.returns c).Start in
    let x = s.args.x in
    λ functions externs.
    let T : Tables = tables_of functions externs s.args.cases.now in
    let other = c.if-x-eq-SELECT_EXEC.false in
    let inside : s.args.k < length (perhaps_writes T x) = rw (perhaps_long T (tables_of [] [] s.args.cases.now) x other) s.requires.0 in
    rw (perhaps_only T x other s.args.k inside) (c.layout_range.ensures T)
