use Rattle.std.proofs.Common.{◌*◌, length, arith}
use Rattle.use_def.specs.laws.Sets.{within_end, put_one}
use Rattle.use_def.proofs.row.put_range.Goals as goal

pub put-requires : goal.put-requires
put-requires c = let s = c.before.before.before in omega (arith, within_end (64 * length s.args.row.now) s.args.r s.requires.1 (omega arith))

pub returns-then-count-eq1 : goal.returns-then-count-eq1
returns-then-count-eq1 c = let p = c.before.before in put_one _ _ _ _ p.if-count-eq1.true p.put.ensures
