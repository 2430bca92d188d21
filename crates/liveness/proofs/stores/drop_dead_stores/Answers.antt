use mathlib.Core.Path.{refl, ◌∙◌}
use mathlib.Core.List.{[]}
use native.Mathlib.Omega.{arith}
use Rattle.unit.specs.laws.Region.{keep_at}
use Rattle.liveness.specs.laws.Droppable.{few_words}
use Rattle.liveness.specs.laws.Stores.{skipped}
use Rattle.liveness.specs.laws.Workable.{put_itself, sweepable, rows_swept}
use Rattle.liveness.proofs.stores.drop_dead_stores.Goals as goal

pub returns-then-not-solve_rows : goal.returns-then-not-solve_rows
returns-then-not-solve_rows c =
    let a = c.args in
    let none = c.solve_rows.ensures.none c.if-not-solve_rows.true in
    (λ constants. put_itself (keep_at a.n) a.n a.table.now _ (skipped _ _ _ _ (none constants)), c.solve_rows.ensures.code)

pub laid_out-sets-requires : goal.laid_out-sets-requires
laid_out-sets-requires c =
    let g = (c.solve_rows.ensures.found c.if-not-solve_rows.false []).workable in
    rw c.set_words.ensures (omega (arith, g.few, g.known.most, few_words g.known g.width))

pub sweep-requires : goal.sweep-requires
sweep-requires c =
    let g = (c.solve_rows.ensures.found c.if-not-solve_rows.false []).workable in
    rw (c.laid_out-sets.ensures, c.set_words.ensures) (sweepable g _ refl refl, g.some)

pub returns : goal.returns
returns c =
    let x = c.solve_rows in
    let h = rw (c.laid_out-sets.ensures, c.set_words.ensures) at c.sweep.ensures in
    (λ constants. rw x.ensures.code at (rows_swept (x.ensures.found c.if-not-solve_rows.false constants) _ _ h), h.2 ∙ x.ensures.code)
