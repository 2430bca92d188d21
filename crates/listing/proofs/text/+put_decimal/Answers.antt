use Rattle.std.proofs.Common.{arith}
use Rattle.listing.specs.Text.{decimal}
use Rattle.listing.specs.laws.Puts.{puts_none}
use Rattle.listing.proofs.Laws.{one_digit, more_digits}
use Rattle.listing.proofs.text.+put_decimal.Goals.{then-v-lt10, else-v-lt10}
use Rattle.listing.proofs.text.+put_decimal.Goals as goal

pub returns-then-k-eq0-clause-text : goal.returns-then-k-eq0-clause-text
unfolding decimal
returns-then-k-eq0-clause-text g c = rw c.if-k-eq0.true (puts_none _ _ (omega arith))

pub returns-clause-text : goal.returns-clause-text
returns-clause-text g c = elim c.if-v-lt10.branch [
  | then-v-lt10 w ↦ one_digit _ _ c.if-k-eq0.false w.if-v-lt10.true w.text-is w.to-is c.requires
  | else-v-lt10 w ↦ more_digits _ _ c.if-k-eq0.false w.if-v-lt10.false w.text-is w.to-is w.put_decimal-to.ensures.text w.put_decimal-to.ensures.most c.requires
]
