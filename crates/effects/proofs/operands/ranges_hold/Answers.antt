use mathlib.Core.Bool.{true, false, and-false}
use mathlib.Core.Path.{◌≡◌, sym, ◌∙◌}
use Rattle.effects.specs.Shape.{Tables, tables_in}
use Rattle.effects.specs.Effects.{all_reads, sure_writes, all_of}
use Rattle.effects.specs.laws.Operands.{range_holds, all_ranges}
use Rattle.effects.proofs.operands.ranges_hold.Goals as goal
use Rattle.effects.proofs.operands.ranges_hold.Goals.{Start}

abbrev tables : Start → Tables
tables s = tables_in s.args.tables

pub returns-then-not-reads_hold : goal.returns-then-not-reads_hold
returns-then-not-reads_hold c =
    let s = (goal.at.returns-then-not-reads_hold c).Start in
    let reads : all_of (range_holds s.args.limit) (all_reads (tables s) s.args.x) ≡ false = sym c.reads_hold.ensures ∙ c.if-not-reads_hold.true in
    rw (all_ranges (tables s) s.args.x (range_holds s.args.limit), reads)

pub returns-then-not-sure_hold : goal.returns-then-not-sure_hold
returns-then-not-sure_hold c =
    let s = (goal.at.returns-then-not-sure_hold c).Start in
    let sure : all_of (range_holds s.args.limit) (sure_writes (tables s) s.args.x) ≡ false = sym (c.sure_hold.ensures s.args.tables.cases.now) ∙ c.if-not-sure_hold.true in
    rw (all_ranges (tables s) s.args.x (range_holds s.args.limit), sure, and-false)

pub returns : goal.returns
returns c =
    let s = (goal.at.returns c).Start in
    let reads : all_of (range_holds s.args.limit) (all_reads (tables s) s.args.x) ≡ true = sym c.reads_hold.ensures ∙ c.if-not-reads_hold.false in
    let sure : all_of (range_holds s.args.limit) (sure_writes (tables s) s.args.x) ≡ true = sym (c.sure_hold.ensures s.args.tables.cases.now) ∙ c.if-not-sure_hold.false in
    rw (all_ranges (tables s) s.args.x (range_holds s.args.limit), reads, sure) (c.perhaps_hold.ensures s.args.tables.callees.functions.now s.args.tables.callees.externs.now)
