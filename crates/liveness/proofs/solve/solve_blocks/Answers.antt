use mathlib.Core.Path.{◌∙◌}
use mathlib.Core.List.{List}
use Prim.Native.Nat.{ℕ}
use Rattle.effects.specs.Shape.{tables_in}
use Rattle.liveness.specs.laws.Workable.{Workable, Begun, part_blocks, part_starts, part_flags, some_size, zero_long, zero_code, summarizable, ready, begun, rows_none, rows_found}
use Rattle.liveness.proofs.solve.solve_blocks.Goals as goal
use Rattle.liveness.proofs.solve.solve_blocks.Goals.{After-summarize}

pub summarize-requires : goal.summarize-requires
summarize-requires c =
    let g = c.requires.workable.1 in
    let keep = c.keep_at-flags.ensures in
    let starts = c.starts_at-starts.ensures in
    summarizable g _ (zero_long g _ (c.fill.ensures.after (λ y e. e))) (zero_code g _ (c.fill.ensures.after (λ y e. e))) _ _ (part_flags g _ keep) (part_starts g _ _ starts keep)

-- what the rounds start from
began : (d : After-summarize) {types : List ℕ} (g : Workable d.args.sets (tables_in d.args.tables) d.args.memory.now d.args.metadata.now types d.args.table.now) → Begun g d.summarize.new.memory
began d g =
    let keep = d.keep_at-flags.ensures in
    let starts = d.starts_at-starts.ensures in
    begun g _ (d.fill.ensures.after (λ y e. e)) _ _ _ (part_flags g _ keep) (part_starts g _ _ starts keep) d.summarize.auto.memory d.summarize.ensures

pub nonzero_div-size : goal.nonzero_div-size
nonzero_div-size c = some_size c.requires.workable.1

pub solve-requires : goal.solve-requires
solve-requires c =
    let g = c.requires.workable.1 in
    let b = began (goal.at.solve-requires c).After-summarize g in
    let starts = c.starts_at-starts.ensures in
    ready g _ b.long b.same _ _ (part_blocks g _ starts) (part_starts g _ _ starts c.keep_at-flags.ensures)

pub returns : goal.returns
returns c =
    let x = c.solve in
    let starts = c.starts_at-starts.ensures in
    let keep = c.keep_at-flags.ensures in
    record {
      found = λ e types constants g. rows_found g _ _ _ _ (began (goal.at.returns c).After-summarize g) (part_blocks g _ starts) (part_starts g _ _ starts keep) _ x.ensures.0 constants e x.auto.memory x.ensures.1;
      none = λ e types constants g. rows_none g _ _ _ _ (began (goal.at.returns c).After-summarize g) (part_blocks g _ starts) (part_starts g _ _ starts keep) _ x.ensures.0 constants e;
      code = x.ensures.1 ∙ (began (goal.at.returns c).After-summarize c.requires.workable.1).same;
    }
