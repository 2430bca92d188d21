use Rattle.values.proofs.Scanning.{scan_hit, scan_on}
use Rattle.values.proofs.table.lowest.Goals as goal

pub returns-then-number-d : goal.returns-then-number-d
returns-then-number-d c = scan_hit c.loop-r.invariant c.number.ensures.0 c.are_alike.ensures c.if-number-d.true

pub loop-r-preserved : goal.loop-r-preserved
loop-r-preserved c = scan_on c.loop-r.invariant c.number.ensures.0 c.are_alike.ensures c.loop-r-test.true c.if-number-d.false
