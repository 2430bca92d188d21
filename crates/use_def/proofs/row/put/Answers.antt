use Rattle.use_def.specs.laws.Sets.{put_in, put_out}
use Rattle.use_def.proofs.row.put.Goals as goal

pub returns-then-on : goal.returns-then-on
returns-then-on c = let i = c.before.before in put_in _ _ _ _ i.if-on.true i.requires i.insert.ensures

pub returns-else-on : goal.returns-else-on
returns-else-on c = let i = c.before.before in put_out _ _ _ _ i.if-on.false i.requires i.remove.ensures
