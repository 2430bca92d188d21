use Rattle.std.proofs.Common.{◌≡◌, List, ℕ, ◌<◌, length, get_or}
use Rattle.words.specs.laws.Every.{Passed}
use Rattle.effects.specs.declared.Range.{Range}
use Rattle.effects.specs.laws.Form.{empty_range}
use Rattle.effects.specs.laws.Operands.{range_holds}
use Rattle.effects.proofs.operands.each_holds.Given as goal

abbrev pub invariant-loop-k : goal.invariant-loop-k
invariant-loop-k g l = (all : List Range) → l.n ≡ length all → ((k : ℕ) (r : Range) → k < l.n → goal.F-post g l.range k r → r ≡ get_or all k empty_range) → Passed l.n (λ j. range_holds l.limit (get_or all j empty_range)) l.k
