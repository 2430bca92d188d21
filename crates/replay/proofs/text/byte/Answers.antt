use Rattle.replay.proofs.Reading.{byte_inside, byte_outside}
use Rattle.replay.proofs.text.byte.Goals as goal

pub returns-then-at-text : goal.returns-then-at-text
returns-then-at-text c = byte_inside _ _ c.if-at-text.true

pub returns-else-at-text : goal.returns-else-at-text
returns-else-at-text c = byte_outside _ _ c.if-at-text.false
