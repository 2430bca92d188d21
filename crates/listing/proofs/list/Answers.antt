use Rattle.std.proofs.Common.{arith}
use Rattle.listing.proofs.Laws.{listed, listing_long, listing_worked}
use Rattle.listing.proofs.list.Goals as goal

pub returns-then-unit-gt2048-clause-text : goal.returns-then-unit-gt2048-clause-text
returns-then-unit-gt2048-clause-text c = listed _ (listing_long _ _ c.if-unit-gt2048.true) (rw c.at.ensures.refusal at c.put_answer.ensures)

pub returns-clause-text : goal.returns-clause-text
returns-clause-text c = listed _ (listing_worked _ (omega (arith, c.if-unit-gt2048.false))) c.list_pass.ensures
