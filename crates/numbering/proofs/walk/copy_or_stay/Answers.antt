use Rattle.numbering.proofs.Walking.{copy_found, copy_none}
use Rattle.numbering.proofs.walk.copy_or_stay.Goals as goal

pub returns-in-Some : goal.returns-in-Some
returns-in-Some c = copy_found c.args.i c.share.ensures c.in-Some.is c.new.ensures

pub returns-in-None : goal.returns-in-None
returns-in-None c = copy_none c.args.i c.share.ensures c.in-None.is
