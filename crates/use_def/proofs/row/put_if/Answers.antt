use Rattle.std.proofs.Common.{◌/◌, arith}
use Rattle.use_def.specs.laws.Sets.{if_inside, put_if}
use Rattle.use_def.proofs.row.put_if.Goals as goal

pub bounds-row-k : goal.bounds-row-k
bounds-row-k c = let s = c.before.before.before in rw c.index_if-at.ensures (if_inside _ _ _ s.requires.0 s.requires.1)

pub bounds-row-k-2 : goal.bounds-row-k-2
bounds-row-k-2 c = let s = c.before.before.before.before in rw c.index_if-at.ensures (if_inside _ _ _ s.requires.0 s.requires.1)

pub returns : goal.returns
returns c =
    let s = c.before.before.before.before in
    let at = c.index_if-at.result in
    put_if s.args.row.now s.args.t s.args.when s.args.on at _ s.requires.1 c.index_if-at.ensures (omega (arith, c.slice_known-2-1.given (at / 64))) c.masked.ensures
