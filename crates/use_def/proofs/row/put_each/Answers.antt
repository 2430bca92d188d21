use Rattle.std.proofs.Common.{◌*◌, length, arith}
use Rattle.use_def.specs.laws.Sets.{range}
use Rattle.use_def.specs.laws.Sets.{putting_begin, putting_turn, within_end}
use Rattle.use_def.proofs.row.put_each.Goals as goal

pub loop-k-init : goal.loop-k-init
loop-k-init c = putting_begin _ _ _

pub overflow_add-start : goal.overflow_add-start
overflow_add-start c =
    let s = c.before.before.before.before in
    omega (arith, within_end (64 * length s.args.row.now) (range s.args.start s.args.count) s.requires.1 (omega arith))

pub put-requires : goal.put-requires
put-requires c =
    let s = c.before.before.before.before in
    omega (arith, c.loop-k.invariant.long, within_end (64 * length s.args.row.now) (range s.args.start s.args.count) s.requires.1 (omega arith))

pub loop-k-preserved : goal.loop-k-preserved
loop-k-preserved c =
    let p = c.before.before in
    putting_turn _ _ _ _ _ _ p.loop-k.invariant p.put.auto.row p.put.ensures
