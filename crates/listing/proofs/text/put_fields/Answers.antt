use Rattle.listing.specs.Text.{fields}
use Rattle.listing.specs.laws.Puts.{puts_then}
use Rattle.listing.proofs.text.put_fields.Goals as goal

pub returns-clause-text : goal.returns-clause-text
unfolding fields
returns-clause-text c =
    let two = puts_then c.put_number-at.ensures.text c.put_number-at-2.ensures.text in
    let four = puts_then (puts_then two c.put_number-at-3.ensures.text) c.put_number-at-4.ensures.text in
    puts_then four c.put_number.ensures.text
