use mathlib.Core.Path.{◌≡◌}
use Rattle.words.specs.Lists.{every, lowest_below}
use Rattle.unit.specs.Entry.{metadata_at, good_metadata, is_wide_select}
use Rattle.parse.proofs.sweep_metadata.Given as goal

abbrev pub invariant-loop-k : goal.invariant-loop-k
invariant-loop-k l =
    (l.good ≡ every l.k (λ j. good_metadata l.cases (metadata_at l.section j))) × (l.wide ≡ lowest_below l.k (λ j. is_wide_select (metadata_at l.section j)))
