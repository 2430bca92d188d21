use mathlib.Core.Path.{refl, ap, ◌∙◌}
use Rattle.words.specs.Lists.{every, lowest_below}
use Rattle.unit.specs.Entry.{metadata_at, good_metadata, is_wide_select}
use Rattle.parse.proofs.Sweeping.{every_more, lowest_more}
use Rattle.parse.proofs.sweep_metadata.Goals as goal

pub loop-k-init : goal.loop-k-init
unfolding every lowest_below
loop-k-init c = (refl, refl)

pub loop-k-preserved : goal.loop-k-preserved
loop-k-preserved c =
    let l = c.loop-k in
    let a = c.args in
    let found = c.metadata-d.ensures in (
      every_more l.k (λ j. good_metadata a.cases (metadata_at a.section.now j)) l.good _ l.invariant.0 (c.good_metadata-good.ensures ∙ ap (good_metadata a.cases) found),
      c.lowest-wide.ensures ∙ lowest_more l.k (λ j. is_wide_select (metadata_at a.section.now j)) l.wide _ l.invariant.1 (c.is_wide_select.ensures ∙ ap is_wide_select found),
    )
