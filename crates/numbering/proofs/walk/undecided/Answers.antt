use Rattle.numbering.proofs.Walking.{undecided_read, undecided_stay}
use Rattle.numbering.proofs.walk.undecided.Goals as goal

pub returns-then-scalar : goal.returns-then-scalar
returns-then-scalar c = undecided_read c.args.i c.scalar.ensures c.if-scalar.true c.number_read.ensures

pub returns : goal.returns
returns c = undecided_stay c.args.i c.requires.0.ready c.scalar.ensures c.if-scalar.false
