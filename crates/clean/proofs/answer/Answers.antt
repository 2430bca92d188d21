use Rattle.answer.specs.declared.Admission.TheVariants.{Admitted, Unchanged as Skipped}
use borrow.Author.Rules.{rules}
use Rattle.std.specs.Prelude.{Ok}
use mathlib.Core.Path.{◌≡◌, sym, ap, ◌∙◌}
use mathlib.Core.Bool.{Bool, ◌&&◌}
use native.Mathlib.Omega.{arith}
use lib.ListN.{length}
use Rattle.unit.specs.Layout.{header_of}
use Rattle.answer.specs.Answer.{Lent, lent_of, room_for, admission}
use Rattle.answer.specs.Clean.{spare_for}
use Rattle.run.proofs.Given.{admitted_worked}
use Rattle.clean.specs.laws.Cleaning.{answers_cleaned, stop_answers}
use Rattle.clean.specs.laws.First.{unaltered_answers, room_shortest, clean_refused, clean_unchanged, clean_admitted}
use Rattle.clean.proofs.answer.Goals as goal
use Rattle.clean.proofs.answer.Goals.{After-admit}

abbrev lent : After-admit → Lent
lent d = lent_of (length d.args.out.now) (length d.args.work32.now) (length d.args.work64.now)

-- is there room in every buffer?
abbrev room : After-admit → Bool
room d = let c = (header_of d.args.unit.now).counts in room_for c (lent d) && spare_for c (length d.args.first.now) (length d.args.second.now)

admitted : (d : After-admit) → d.admit.result ≡ admission (room d) d.args.unit.now
admitted d =
    let a = d.args in
    d.admit.ensures.answer
    ∙ ap (λ (t : Bool). admission t a.unit.now) (room_shortest (header_of a.unit.now).counts (length a.out.now) (length a.work32.now) (length a.work64.now) (length a.first.now) (length a.second.now) _ (omega (arith, d.min-shortest.ensures, d.min.ensures)))

pub first_pass-requires : goal.first_pass-requires
first_pass-requires c =
    let z : c.in-Ok-Admitted.field-0 ≡ Admitted = search rules in
    record { admitted = admitted_worked c.args.unit.now (room (goal.at.first_pass-requires c).After-admit) (sym (admitted (goal.at.first_pass-requires c).After-admit) ∙ (c.in-Ok-Admitted.is ∙ ap Ok z)) }

pub returns-in-Ok-Unchanged : goal.returns-in-Ok-Unchanged
returns-in-Ok-Unchanged c =
    let z : c.in-Ok-Unchanged.field-0 ≡ Skipped = search rules in
    let a = c.args in record { answers = answers_cleaned _ _ _ _ _ (clean_unchanged a.unit.now (lent (goal.at.returns-in-Ok-Unchanged c).After-admit) (length a.first.now) (length a.second.now) (sym (admitted (goal.at.returns-in-Ok-Unchanged c).After-admit) ∙ (c.in-Ok-Unchanged.is ∙ ap Ok z))) (unaltered_answers a.out.now) }

pub returns-in-Err : goal.returns-in-Err
returns-in-Err c =
    let a = c.args in record { answers = answers_cleaned _ _ _ _ _ (clean_refused a.unit.now (lent (goal.at.returns-in-Err c).After-admit) (length a.first.now) (length a.second.now) _ _ (sym (admitted (goal.at.returns-in-Err c).After-admit) ∙ c.in-Err.is)) (stop_answers _ _ 1 a.out.now) }

pub returns-in-Ok-Admitted : goal.returns-in-Ok-Admitted
returns-in-Ok-Admitted c =
    let z : c.in-Ok-Admitted.field-0 ≡ Admitted = search rules in
    let a = c.args in record { answers = answers_cleaned _ _ _ _ _ (clean_admitted a.unit.now (lent (goal.at.returns-in-Ok-Admitted c).After-admit) (length a.first.now) (length a.second.now) (sym (admitted (goal.at.returns-in-Ok-Admitted c).After-admit) ∙ (c.in-Ok-Admitted.is ∙ ap Ok z))) c.first_pass.ensures.answers }
