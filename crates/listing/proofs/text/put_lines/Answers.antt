use Rattle.std.proofs.Common.{rules, add-one}
use Rattle.listing.specs.Text.{lines}
use Rattle.listing.specs.laws.Puts.{puts_none, puts_then}
use Rattle.listing.proofs.text.put_lines.Goals as goal

pub loop-k-init : goal.loop-k-init
unfolding lines
loop-k-init c = (search rules, puts_none _ _ (search rules))

pub loop-k-preserved : goal.loop-k-preserved
unfolding lines
loop-k-preserved c = (search rules, rw (add-one c.loop-k.k) (puts_then c.loop-k.invariant.1 c.put_line-end.ensures.text))
