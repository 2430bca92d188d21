use Rattle.std.proofs.Common.{◌≡◌, Ok, rules, refl, ap, ◌∙◌, arith}
use Rattle.optimize.specs.declared.Answer.TheVariants.{Unchanged, Rewritten}
use Rattle.clean.specs.laws.Later.{small_answers, unchanged_answers, refused_answers, places_inside, rewritten_answers}
use Rattle.clean.proofs.later.later.Goals as goal

pub returns-then-k-lt2 : goal.returns-then-k-lt2
returns-then-k-lt2 c = small_answers c.requires (λ i. omega (arith, c.type_inv.unit i)) (λ i. omega (arith, c.type_inv.from i)) c.if-k-lt2.true c.args.to.now

pub returns-in-Ok-Unchanged : goal.returns-in-Ok-Unchanged
returns-in-Ok-Unchanged c =
    let z : c.in-Ok-Unchanged.field-0 ≡ Unchanged = search rules in
    unchanged_answers c.requires (λ i. omega (arith, c.type_inv.unit i)) (λ i. omega (arith, c.type_inv.from i)) (omega arith) c.args.to.now _ _ c.work.ensures (c.in-Ok-Unchanged.is ∙ ap Ok z)

pub returns-in-Err : goal.returns-in-Err
returns-in-Err c =
    refused_answers c.requires (λ i. omega (arith, c.type_inv.unit i)) (λ i. omega (arith, c.type_inv.from i)) (omega arith) c.args.to.now _ _ c.work.ensures _ _ c.in-Err.is

pub place-requires : goal.place-requires
place-requires c =
    let z : c.in-Ok-Rewritten.field-0 ≡ Rewritten c.in-Ok-Rewritten.j = search rules in
    places_inside c.requires (λ i. omega (arith, c.type_inv.unit i)) (λ i. omega (arith, c.type_inv.from i)) (omega arith) c.args.to.now _ _ c.work.ensures _ (c.in-Ok-Rewritten.is ∙ ap Ok z) refl

pub returns-in-Ok-Rewritten : goal.returns-in-Ok-Rewritten
returns-in-Ok-Rewritten c =
    let z : c.in-Ok-Rewritten.field-0 ≡ Rewritten c.in-Ok-Rewritten.j = search rules in
    rewritten_answers c.requires (λ i. omega (arith, c.type_inv.unit i)) (λ i. omega (arith, c.type_inv.from i)) (omega arith) c.args.to.now _ _ c.work.ensures _ (c.in-Ok-Rewritten.is ∙ ap Ok z) _ c.place.ensures
