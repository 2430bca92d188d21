use Rattle.flow.specs.laws.Control.{same_default}
use Rattle.use_def.proofs.dead.is_free.Goals as goal

pub returns : goal.returns
returns c =
    let s = c.before.before.before.before in
    rw (c.contains.ensures, same_default s.args.types.now s.args.t 0 1 s.requires.0)
