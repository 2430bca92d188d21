use Rattle.numbering.proofs.Loop.{enter_room, turns}
use Rattle.numbering.proofs.walk.turn.Goals as goal

pub number_one-numbered-requires : goal.number_one-numbered-requires
number_one-numbered-requires c = (enter_room c.requires.0 c.requires.1 c.enter.ensures.kept, rw c.from_word-i.ensures c.requires.2, c.requires.3)

pub returns : goal.returns
returns c = turns c.enter.ensures (rw c.from_word-i.ensures at c.number_one-numbered.ensures) c.word.ensures
