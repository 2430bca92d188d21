use Rattle.listing.specs.laws.Puts.{puts_then}
use Rattle.listing.proofs.Laws.{line_puts}
use Rattle.listing.proofs.text.put_line.Goals as goal

pub returns-clause-text : goal.returns-clause-text
returns-clause-text c =
    let places = puts_then c.put_number-at.ensures.text c.put_number-at-2.ensures.text in
    line_puts _ _ _ c.read_u32-old.ensures c.places_at.ensures c.read-i.ensures (puts_then places c.put_fields.ensures.text)
