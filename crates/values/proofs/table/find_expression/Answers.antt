use Rattle.values.proofs.Reading.{expression_none, found_few, expression_value}
use Rattle.values.proofs.Recording.{few}
use Rattle.values.specs.laws.Entries.{key, newest}
use Rattle.values.specs.laws.Memory.{memory_of}
use Rattle.std.proofs.Common.{◌≡◌, arith}
use Rattle.values.proofs.table.find_expression.Goals as goal
use Rattle.values.proofs.table.find_expression.Tie as tie
use Rattle.values.proofs.table.find_expression.Lts
use Rattle.values.proofs.table.find_expression.Reads

abbrev After-find-f : Type 0
After-find-f = Lts.After-find tie.the-claims Reads.Pre Reads.Post

abbrev Start : Type 0
Start = Lts.Start tie.the-claims Reads.Pre Reads.Post

abbrev start : After-find-f → Start
start c = c.before.before.before.before.before.before

-- what is found in the table of expressions
found : (c : After-find-f) → let m = memory_of (start c).args.n (start c).args.locals (start c).args.t.now in c.find-f.result ≡ newest m.expression_table (start c).args.n m.expressions (key (start c).args.word 0)
found c = rw (c.expressions_at-start.ensures, c.end_at-end.ensures) at c.find-f.ensures

pub find-f-requires : goal.find-f-requires
find-f-requires c =
    rw (c.expressions_at-start.ensures, c.end_at-end.ensures)
    (record { epoch = _; linked = c.requires.0.order.expressions; first = c.requires.1 })

pub returns-then-f-eq0 : goal.returns-then-f-eq0
returns-then-f-eq0 c = expression_none (start c.before.before).requires.0 _ (found c.before.before) c.if-f-eq0.true

pub overflow_mul-at : goal.overflow_mul-at
overflow_mul-at c = let s = (start c.before.before).requires.0 in record { fits = omega (arith, found_few s _ (found c.before.before), few s) }

pub overflow_add-at-2 : goal.overflow_add-at-2
overflow_add-at-2 c = let s = (start c.before.before).requires.0 in record { fits = omega (arith, c.expressions_at-start.ensures, found_few s _ (found c.before.before), few s, s.order.locals) }

pub overflow_add-at-3 : goal.overflow_add-at-3
overflow_add-at-3 c = let s = (start c.before.before).requires.0 in record { fits = omega (arith, c.expressions_at-start.ensures, found_few s _ (found c.before.before), few s, s.order.locals) }

pub offset_bounds-t-at : goal.offset_bounds-t-at
offset_bounds-t-at c = let s = (start c.before.before).requires.0 in record { fits = omega (arith, c.expressions_at-start.ensures, found_few s _ (found c.before.before), few s, s.order.locals) }

pub bounds-t-at : goal.bounds-t-at
bounds-t-at c = let s = (start c.before.before.before).requires.0 in omega (arith, c.expressions_at-start.ensures, found_few s _ (found c.before.before.before), s.long, c.if-f-eq0.false)

pub returns : goal.returns
returns c = expression_value (start c.before.before.before).requires.0 _ c.expressions_at-start.ensures _ (found c.before.before.before) c.if-f-eq0.false
