use Rattle.optimize.specs.declared.Answer.TheVariants.{Unchanged, Rewritten}
use borrow.Author.Rules.{rules}
use Rattle.std.specs.Prelude.{Ok}
use Rattle.words.specs.Bytes.{Bytes}
use mathlib.Core.Path.{refl, ◌≡◌, ap, ◌∙◌}
use native.Mathlib.Omega.{arith}
use Rattle.answer.specs.Answer.{sections_of}
use Rattle.run.specs.laws.Reading.{retained_in}
use Rattle.clean.specs.laws.Cleaning.{answers_cleaned, stop_answers, from_unchanged, from_refused, ready_as, next_ready, from_rewritten}
use Rattle.clean.proofs.second_pass.Goals as goal
use Rattle.clean.proofs.second_pass.Goals.{After-later}

-- the bytes of the result before, from the state after the pass
from_bytes : (l : After-later) → Bytes l.args.from.now
from_bytes l i = omega (arith, l.slice_known-4-1.given i)

pub third_pass-requires : goal.third_pass-requires
third_pass-requires c =
    let z : c.in-Ok-Rewritten.field-0 ≡ Rewritten c.in-Ok-Rewritten.j = search rules in
    let n = next_ready c.requires.0 (λ i. omega (arith, c.type_inv.unit i)) (from_bytes (goal.at.third_pass-requires c).After-later) c.args.to.now _ _ c.later.ensures refl _ (c.in-Ok-Rewritten.is ∙ ap Ok z) in
    let k = c.later.auto in
    (ready_as n.ready _ _ _ refl k.work32 k.work64, omega (arith, n.fewer, c.requires.1))

pub returns-in-Ok-Unchanged : goal.returns-in-Ok-Unchanged
returns-in-Ok-Unchanged c =
    let z : c.in-Ok-Unchanged.field-0 ≡ Unchanged = search rules in
    answers_cleaned _ _ _ _ _ (from_unchanged (sections_of c.args.unit.now) 1 1 (retained_in c.args.k c.args.from.now) c.args.to.now _ _ c.later.ensures (c.in-Ok-Unchanged.is ∙ ap Ok z)) c.give.ensures

pub returns-in-Err : goal.returns-in-Err
returns-in-Err c =
    answers_cleaned _ _ _ _ _ (from_refused (sections_of c.args.unit.now) 1 1 (retained_in c.args.k c.args.from.now) c.args.to.now _ _ c.later.ensures _ _ c.in-Err.is) (stop_answers _ _ 2 c.args.out.now)

pub returns-in-Ok-Rewritten : goal.returns-in-Ok-Rewritten
returns-in-Ok-Rewritten c =
    let z : c.in-Ok-Rewritten.field-0 ≡ Rewritten c.in-Ok-Rewritten.j = search rules in
    answers_cleaned _ _ _ _ _ (from_rewritten c.requires.0 (λ i. omega (arith, c.type_inv.unit i)) (from_bytes (goal.at.returns-in-Ok-Rewritten c).After-later) c.args.to.now _ _ c.later.ensures refl _ (c.in-Ok-Rewritten.is ∙ ap Ok z) 1 1) c.third_pass.ensures
