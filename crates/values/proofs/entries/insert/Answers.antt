use Rattle.std.proofs.Common.{arith, length-set}
use Rattle.values.specs.laws.Adding.{first_added, attach_asks, later_added}
use Rattle.values.proofs.entries.insert.Goals as goal

pub bounds-w-at-2 : goal.bounds-w-at-2
bounds-w-at-2 c = simp length-set (omega arith)

pub bounds-w-at-3 : goal.bounds-w-at-3
bounds-w-at-3 c = simp length-set (omega arith)

pub bounds-w-at-4 : goal.bounds-w-at-4
bounds-w-at-4 c = simp length-set (omega arith)

pub bounds-w-b : goal.bounds-w-b
bounds-w-b c = simp length-set (omega arith)

pub returns-then-first-eq0 : goal.returns-then-first-eq0
returns-then-first-eq0 c = first_added c.args.v c.requires c.if-first-eq0.true

pub attach-requires : goal.attach-requires
attach-requires c = attach_asks c.args.v c.requires c.if-first-eq0.false

pub returns : goal.returns
returns c = later_added c.args.v c.requires c.attach.ensures

pub shape_of-w : goal.shape_of-w
shape_of-w c = (returns c).long
