use Rattle.std.proofs.Common.{rules, arith, refl, length, ◌/◌}
use Rattle.std.proofs.lemmas.Iterator.{YieldsList-from_range}
use Rattle.unit.specs.Size.{constant_size}
use Rattle.unit.specs.Entry.{good_constant}
use Rattle.parse.proofs.Passing.{every_passed}
use Rattle.parse.proofs.every_constant.Goals as goal

pub returns : goal.returns
returns c = every_passed (length c.args.section.now / constant_size) (λ k. good_constant c.args.section.now k) _ _ c.all.ensures.ran (YieldsList-from_range 0 _ _ refl (omega arith)) (λ x b q k. search rules)
