use Rattle.std.proofs.Common.{◌*◌, length, sym, ◌∙◌, arith}
use Rattle.use_def.specs.laws.Sets.{within_end}
use Rattle.use_def.specs.laws.Free.{one_free}
use Rattle.use_def.proofs.dead.is_range_free.Goals as goal

pub is_free-requires : goal.is_free-requires
is_free-requires c =
    let s = c.before.before.before in
    (omega (arith, within_end (length s.args.types.now) s.args.r s.requires.typed (omega arith)), omega (arith, within_end (64 * length s.args.row.now) s.args.r s.requires.inside (omega arith)))

pub returns-then-count-eq1 : goal.returns-then-count-eq1
returns-then-count-eq1 c =
    let s = c.before.before.before.before in
    c.is_free.ensures ∙ sym (one_free s.args.types.now s.args.row.now s.args.r c.if-count-eq1.true)
