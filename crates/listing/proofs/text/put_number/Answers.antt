use Rattle.std.proofs.Common.{arith}
use Rattle.listing.specs.Text.{ended}
use Rattle.listing.specs.laws.Puts.{puts_one, puts_then, puts_long}
use Rattle.listing.proofs.text.put_number.Goals as goal

pub returns-clause-text : goal.returns-clause-text
unfolding ended
returns-clause-text c =
    let digits = c.put_decimal-to.ensures.text in
    let long = puts_long digits in
    puts_then digits (puts_one _ _ _ (omega (arith, c.put_decimal-to.ensures.most, c.requires)))
