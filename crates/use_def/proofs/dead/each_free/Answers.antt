use Rattle.std.proofs.Common.{◌*◌, ◌<◌, length, sym, ◌∙◌, arith}
use Rattle.use_def.specs.laws.Sets.{range, within_end}
use Rattle.use_def.specs.laws.Free.{not_free, all_free}
use Rattle.use_def.proofs.dead.each_free.Goals as goal

pub is_free-requires : goal.is_free-requires
is_free-requires c =
    let some : 0 < c.args.count = omega arith in
    let typed = within_end (length c.args.types.now) (range c.args.start c.args.count) c.requires.typed some in
    let inside = within_end (64 * length c.args.row.now) (range c.args.start c.args.count) c.requires.inside some in
    (omega arith, omega arith)

pub returns-then-not-is_free : goal.returns-then-not-is_free
returns-then-not-is_free c = not_free c.args.types.now c.args.row.now _ _ _ c.loop-k-test.true (sym c.is_free.ensures ∙ c.if-not-is_free.true)

pub returns : goal.returns
returns c = all_free c.args.types.now c.args.row.now _ _ (λ k h. c.loop-k.invariant k (omega arith))
