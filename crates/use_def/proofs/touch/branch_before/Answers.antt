use Rattle.std.proofs.Common.{sym, ◌∙◌}
use Rattle.use_def.specs.laws.BranchSets.{put_branch_reads}
use Rattle.use_def.proofs.touch.branch_before.Goals as goal

pub put_if-requires : goal.put_if-requires
put_if-requires c =
    let p = c.requires in
    rw c.field.ensures (p.0.some, λ e. p.0.condition (sym (rw p.1 at c.reads_condition.ensures) ∙ e))

pub put_if-requires-2 : goal.put_if-requires-2
put_if-requires-2 c =
    let p = c.requires in
    rw (c.put_if.auto.row, c.field-2.ensures) (p.0.some, λ e. p.0.limit (sym (rw p.1 at c.is_loop.ensures) ∙ e))

pub returns : goal.returns
returns c =
    let p = c.requires in
    λ T m. put_branch_reads _ p.0.branching T m _ _ _ _ _ _ _ (rw p.1 at c.reads_condition.ensures) c.field.ensures (rw p.1 at c.is_loop.ensures) c.field-2.ensures c.put_if.ensures c.put_if-2.ensures
