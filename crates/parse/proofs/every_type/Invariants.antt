use mathlib.Core.Path.{◌≡◌}
use Rattle.words.specs.Lists.{every}
use Rattle.unit.specs.Entry.{good_type, type_at}
use Rattle.parse.proofs.every_type.Given as goal

abbrev pub invariant-loop-it : goal.invariant-loop-it
invariant-loop-it l = l.good ≡ every l.it-index (λ j. good_type (type_at l.section j))
