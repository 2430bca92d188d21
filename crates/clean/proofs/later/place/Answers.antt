use Rattle.clean.specs.laws.Later.{place_asks, place_puts}
use Rattle.clean.proofs.later.place.Goals as goal

pub compose-requires : goal.compose-requires
compose-requires c = place_asks c.requires _ _ c.places_at-old.ensures c.places_at-new.ensures

pub returns : goal.returns
returns c = place_puts c.requires _ _ c.places_at-old.ensures c.places_at-new.ensures _ c.compose.ensures
