use Rattle.optimize.specs.declared.Answer.TheVariants.{Unchanged, Rewritten}
use borrow.Author.Rules.{rules}
use Rattle.std.specs.Prelude.{Ok}
use Rattle.words.specs.Bytes.{Bytes}
use mathlib.Core.Path.{refl, ◌≡◌, ap, ◌∙◌}
use native.Mathlib.Omega.{arith}
use Rattle.answer.specs.Answer.{sections_of}
use Rattle.answer.specs.Clean.{clean_from}
use Rattle.run.specs.laws.Reading.{retained_in}
use Rattle.clean.specs.laws.Cleaning.{answers_cleaned, stop_answers, from_unchanged, from_refused, next_ready, from_rewritten}
use Rattle.clean.proofs.third_pass.Goals as goal

pub give-requires-in-Ok-Rewritten : goal.give-requires-in-Ok-Rewritten
give-requires-in-Ok-Rewritten c =
    let z : c.in-Ok-Rewritten.field-0 ≡ Rewritten c.in-Ok-Rewritten.j = search rules in
    let n = next_ready c.requires.0 (λ i. omega (arith, c.type_inv.unit i)) (λ i. omega (arith, c.type_inv.from i)) c.args.to.now _ _ c.later.ensures refl _ (c.in-Ok-Rewritten.is ∙ ap Ok z) in
    (n.ready.few, n.ready.long, omega (arith, n.fewer, c.requires.1), n.ready.whole)

pub returns-in-Ok-Unchanged : goal.returns-in-Ok-Unchanged
returns-in-Ok-Unchanged c =
    let z : c.in-Ok-Unchanged.field-0 ≡ Unchanged = search rules in
    answers_cleaned _ _ _ _ _ (from_unchanged (sections_of c.args.unit.now) 0 2 (retained_in c.args.k c.args.from.now) c.args.to.now _ _ c.later.ensures (c.in-Ok-Unchanged.is ∙ ap Ok z)) c.give.ensures

pub returns-in-Err : goal.returns-in-Err
returns-in-Err c =
    answers_cleaned _ _ _ _ _ (from_refused (sections_of c.args.unit.now) 0 2 (retained_in c.args.k c.args.from.now) c.args.to.now _ _ c.later.ensures _ _ c.in-Err.is) (stop_answers _ _ 3 c.args.out.now)

pub returns-in-Ok-Rewritten : goal.returns-in-Ok-Rewritten
unfolding clean_from
returns-in-Ok-Rewritten c =
    let z : c.in-Ok-Rewritten.field-0 ≡ Rewritten c.in-Ok-Rewritten.j = search rules in
    answers_cleaned _ _ _ _ _ (from_rewritten c.requires.0 (λ i. omega (arith, c.type_inv.unit i)) (λ i. omega (arith, c.type_inv.from i)) c.args.to.now _ _ c.later.ensures refl _ (c.in-Ok-Rewritten.is ∙ ap Ok z) 0 2) c.give-in-Ok-Rewritten.ensures
