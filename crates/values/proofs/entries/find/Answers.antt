use Rattle.values.specs.laws.Search.{walk_start, walk_hit, walk_less, walk_on, walk_end}
use Rattle.values.proofs.entries.find.Goals as goal

pub loop-p-init : goal.loop-p-init
loop-p-init c = walk_start c.requires.linked c.requires.first

pub returns-then-holds : goal.returns-then-holds
returns-then-holds c = walk_hit c.requires.linked c.loop-p.invariant c.loop-p-test.true c.holds.ensures c.if-holds.true

pub loop-p-smaller : goal.loop-p-smaller
loop-p-smaller c = walk_less c.requires.linked c.loop-p.invariant c.loop-p-test.true c.child-p.ensures

pub loop-p-preserved : goal.loop-p-preserved
loop-p-preserved c = walk_on c.requires.linked c.loop-p.invariant c.loop-p-test.true c.child-p.ensures c.holds.ensures c.if-holds.false

pub returns : goal.returns
returns c = walk_end c.loop-p.invariant c.loop-p-test.false
