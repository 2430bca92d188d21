use Rattle.removal.specs.laws.JumpRounds.{map_asks, map_made}
use Rattle.removal.proofs.jump.drop_jumps.Goals as goal
use Rattle.removal.proofs.jump.drop_jumps.Tie as tie
use Rattle.removal.proofs.jump.drop_jumps.Lts
use Rattle.removal.proofs.jump.drop_jumps.Reads

abbrev After-drop_rounds : Type 0
After-drop_rounds = Lts.After-drop_rounds tie.the-claims Reads.Pre Reads.Post

abbrev Start : Type 0
Start = Lts.Start tie.the-claims Reads.Pre Reads.Post

abbrev start : After-drop_rounds → Start
start d = d.before.before.before.before.before

pub boundaries-requires : goal.boundaries-requires
boundaries-requires c =
    let s = start c.before.before.before.before in
    let m = map_asks _ _ _ s.requires.0 s.requires.2 c.drop_rounds.ensures in
    (m.0, s.requires.0.few, m.1)

pub returns : goal.returns
returns c metadata keep e =
    let s = start c.before.before.before.before.before.before.before in
    map_made _ _ _ s.requires.0 s.requires.2 c.drop_rounds.ensures metadata keep _ e c.boundaries.ensures.0
