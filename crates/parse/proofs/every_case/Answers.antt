use Rattle.std.proofs.Common.{rules, arith, refl, length, ◌/◌}
use Rattle.std.proofs.lemmas.Iterator.{YieldsList-from_range}
use Rattle.unit.specs.Size.{case_size}
use Rattle.unit.specs.Entry.{good_case, case_at}
use Rattle.parse.proofs.Passing.{every_passed}
use Rattle.parse.proofs.every_case.Goals as goal

pub returns : goal.returns
returns c = every_passed (length c.args.section.now / case_size) (λ k. good_case (case_at c.args.section.now k)) _ _ c.all.ensures.ran (YieldsList-from_range 0 _ _ refl (omega arith)) (λ x b q k. search rules)
