use Rattle.optimize.specs.declared.Answer.TheVariants.{Unchanged, Rewritten}
use borrow.Author.Rules.{rules}
use Rattle.std.specs.Prelude.{Ok}
use mathlib.Core.Path.{refl, ◌≡◌, ap, ◌∙◌}
use native.Mathlib.Omega.{arith}
use lib.ListN.{length}
use Rattle.words.specs.Bytes.{Bytes}
use Rattle.clean.specs.laws.Cleaning.{answers_cleaned, stop_answers, ready_as}
use Rattle.clean.specs.laws.First.{unaltered_answers, first_worked, first_unchanged, first_refused, first_ready, first_rewritten}
use Rattle.clean.proofs.first_pass.Goals as goal

pub work-requires : goal.work-requires
work-requires c =
    let a = c.args in record { admitted = first_worked a.unit.now (λ i. omega (arith, c.type_inv.unit i)) (length a.out.now) (length a.work32.now) (length a.work64.now) (length a.first.now) (length a.second.now) c.requires.admitted }

pub second_pass-requires : goal.second_pass-requires
second_pass-requires c =
    let z : c.in-Ok-Rewritten.field-0 ≡ Rewritten c.in-Ok-Rewritten.k = search rules in
    let a = c.args in
    let r = first_ready a.unit.now (λ i. omega (arith, c.type_inv.unit i)) (length a.out.now) (length a.work32.now) (length a.work64.now) (length a.first.now) (length a.second.now) c.requires.admitted a.first.now _ _ c.work.ensures.answers refl _ (c.in-Ok-Rewritten.is ∙ ap Ok z) in
    let long = c.work.auto in
    (ready_as r.0 _ _ _ refl long.work32 long.work64, r.1)

pub returns-in-Ok-Unchanged : goal.returns-in-Ok-Unchanged
returns-in-Ok-Unchanged c =
    let z : c.in-Ok-Unchanged.field-0 ≡ Unchanged = search rules in
    let a = c.args in record { answers = answers_cleaned _ _ _ _ _ (first_unchanged a.unit.now (λ i. omega (arith, c.type_inv.unit i)) (length a.out.now) (length a.work32.now) (length a.work64.now) (length a.first.now) (length a.second.now) c.requires.admitted a.first.now _ _ c.work.ensures.answers (c.in-Ok-Unchanged.is ∙ ap Ok z)) (unaltered_answers a.out.now) }

pub returns-in-Err : goal.returns-in-Err
returns-in-Err c =
    let a = c.args in record { answers = answers_cleaned _ _ _ _ _ (first_refused a.unit.now (λ i. omega (arith, c.type_inv.unit i)) (length a.out.now) (length a.work32.now) (length a.work64.now) (length a.first.now) (length a.second.now) c.requires.admitted a.first.now _ _ c.work.ensures.answers _ _ c.in-Err.is) (stop_answers _ _ 1 a.out.now) }

pub returns-in-Ok-Rewritten : goal.returns-in-Ok-Rewritten
returns-in-Ok-Rewritten c =
    let z : c.in-Ok-Rewritten.field-0 ≡ Rewritten c.in-Ok-Rewritten.k = search rules in
    let a = c.args in record { answers = answers_cleaned _ _ _ _ _ (first_rewritten a.unit.now (λ i. omega (arith, c.type_inv.unit i)) (length a.out.now) (length a.work32.now) (length a.work64.now) (length a.first.now) (length a.second.now) c.requires.admitted a.first.now _ _ c.work.ensures.answers refl _ (c.in-Ok-Rewritten.is ∙ ap Ok z)) c.second_pass.ensures }
