use Rattle.std.proofs.Common.{sym, ◌∙◌}
use Rattle.instruction.specs.Instruction.{of_word}
use Rattle.use_def.specs.laws.SingleSets.{single_dead, single_spans}
use Rattle.use_def.proofs.dead.is_single_dead.Goals as goal

pub is_free-requires : goal.is_free-requires
unfolding of_word
is_free-requires c =
    let s = c.before.before.before in
    rw c.field.ensures (single_spans s.args.types.now s.args.row.now (of_word s.args.w) s.requires.0 s.requires.1)

pub returns : goal.returns
unfolding of_word
returns c =
    let s = c.before.before.before.before in
    c.is_free.ensures ∙ rw c.field.ensures (sym (single_dead s.args.types.now s.args.row.now (of_word s.args.w) s.requires.0))
