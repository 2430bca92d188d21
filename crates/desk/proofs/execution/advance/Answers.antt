use Rattle.desk.proofs.laws.Priced.{placed_unpriced}
use Rattle.desk.proofs.execution.advance.Goals as goal

pub returns : goal.returns
returns c = record { reached = placed_unpriced _ _ _ _ _ _ c.advance_priced-reached.ensures.reached }
