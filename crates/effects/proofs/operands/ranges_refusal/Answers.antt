use mathlib.Core.Path.{◌≡◌, sym, ◌∙◌}
use mathlib.Core.Bool.{true, false}
use mathlib.Core.List.{◌++◌}
use native.Mathlib.Omega.{arith}
use Rattle.effects.specs.Shape.{Tables, tables_in}
use Rattle.effects.specs.Effects.{all_reads, writes, demands_met, all_of}
use Rattle.effects.specs.laws.Operands.{slots, range_holds, cases_inside, refused_demand, not_refused, refused_within, refused_fit}
use Rattle.effects.proofs.operands.ranges_refusal.Goals as goal

pub returns-then-not-demands_met : goal.returns-then-not-demands_met
returns-then-not-demands_met c =
    let a = c.args in
    let x = a.x in
    let T : Tables = tables_in a.tables in
    let demand : demands_met T x ≡ false = sym (c.demands_met.ensures a.tables.cases.now) ∙ c.if-not-demands_met.true in
    sym (refused_demand T x a.locals c.requires.2 demand)

pub ranges_hold-requires : goal.ranges_hold-requires
ranges_hold-requires c =
    let a = c.args in
    let x = a.x in
    let T : Tables = tables_in a.tables in
    let demand : demands_met T x ≡ true = sym (c.demands_met.ensures a.tables.cases.now) ∙ c.if-not-demands_met.false in
    (omega arith, cases_inside T x c.requires.1 demand)

pub returns-then-ranges_hold : goal.returns-then-ranges_hold
returns-then-ranges_hold c =
    let a = c.args in
    let x = a.x in
    let T : Tables = tables_in a.tables in
    let demand : demands_met T x ≡ true = sym (c.demands_met.ensures a.tables.cases.now) ∙ c.if-not-demands_met.false in
    let holds : all_of (range_holds a.locals) (all_reads T x ++ writes T x) ≡ true = sym c.ranges_hold.ensures ∙ c.if-ranges_hold.true in
    sym (not_refused T x a.locals c.requires.2 demand holds)

pub ranges_hold-requires-2 : goal.ranges_hold-requires-2
ranges_hold-requires-2 c =
    let a = c.args in
    let x = a.x in
    let T : Tables = tables_in a.tables in
    let demand : demands_met T x ≡ true = sym (c.demands_met.ensures a.tables.cases.now) ∙ c.if-not-demands_met.false in
    (omega arith, cases_inside T x c.requires.1 demand)

pub returns-then-ranges_hold-2 : goal.returns-then-ranges_hold-2
returns-then-ranges_hold-2 c =
    let a = c.args in
    let x = a.x in
    let T : Tables = tables_in a.tables in
    let demand : demands_met T x ≡ true = sym (c.demands_met.ensures a.tables.cases.now) ∙ c.if-not-demands_met.false in
    let outside : all_of (range_holds a.locals) (all_reads T x ++ writes T x) ≡ false = sym c.ranges_hold.ensures ∙ c.if-ranges_hold.false in
    let fits : all_of (range_holds slots) (all_reads T x ++ writes T x) ≡ true = sym c.ranges_hold-2.ensures ∙ c.if-ranges_hold-2.true in
    sym (refused_within T x a.locals c.requires.2 demand outside fits)

pub returns : goal.returns
returns c =
    let a = c.args in
    let x = a.x in
    let T : Tables = tables_in a.tables in
    let demand : demands_met T x ≡ true = sym (c.demands_met.ensures a.tables.cases.now) ∙ c.if-not-demands_met.false in
    let error : all_of (range_holds slots) (all_reads T x ++ writes T x) ≡ false = sym c.ranges_hold-2.ensures ∙ c.if-ranges_hold-2.false in
    sym (refused_fit T x a.locals c.requires.2 demand error)
