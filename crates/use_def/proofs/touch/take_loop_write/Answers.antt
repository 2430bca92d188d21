use Rattle.std.proofs.Common.{sym, ◌∙◌}
use Rattle.use_def.specs.laws.BranchSets.{loop_condition, put_loop_write}
use Rattle.use_def.proofs.touch.take_loop_write.Goals as goal

pub put_if-requires : goal.put_if-requires
put_if-requires c =
    let p = c.requires in
    rw c.field.ensures (p.0.some, λ e. p.0.condition (loop_condition _ p.0.branching (sym (rw p.1 at c.is_loop.ensures) ∙ e)))

pub returns : goal.returns
returns c =
    let p = c.requires in
    λ T m. put_loop_write _ p.0.branching T m _ _ _ _ (rw p.1 at c.is_loop.ensures) c.field.ensures c.put_if.ensures
