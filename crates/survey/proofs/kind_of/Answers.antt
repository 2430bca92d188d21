use borrow.Author.Rules.{rules}
use Rattle.std.specs.Prelude.{◌≡◌, Ok, Some, None}
use Rattle.std.proofs.Common.{List, ℕ, ap, ◌∙◌}
use Rattle.answer.specs.Answer.{pass_answer}
use Rattle.optimize.specs.PassAnswer.{answer_of}
use Rattle.survey.specs.Survey.{kind_of, lent}
use Rattle.survey.proofs.Making.{made256, front, inside, not_refused, not_none}
use Rattle.survey.proofs.kind_of.Goals as goal

pub kind_of_front-requires : goal.kind_of_front-requires
kind_of_front-requires c =
    let z : c.in-Ok-Some.field-0 ≡ Some c.in-Ok-Some.size = search rules in
    inside (made256 c.requires c.make_unit.ensures) _ (c.in-Ok-Some.is ∙ ap Ok z)

pub returns-in-Ok-Some : goal.returns-in-Ok-Some
returns-in-Ok-Some c =
    let z : c.in-Ok-Some.field-0 ≡ Some c.in-Ok-Some.size = search rules in
    c.kind_of_front.ensures
    ∙ ap (λ (u : List ℕ). kind_of (answer_of (pass_answer u lent))) (front (made256 c.requires c.make_unit.ensures) _ (c.in-Ok-Some.is ∙ ap Ok z))

pub returns-in-Err : goal.returns-in-Err
returns-in-Err c = absurd (not_refused (made256 c.requires c.make_unit.ensures) _ _ c.in-Err.is)

pub returns-in-Ok-None : goal.returns-in-Ok-None
returns-in-Ok-None c =
    let z : c.in-Ok-None.field-0 ≡ None = search rules in
    absurd (not_none (made256 c.requires c.make_unit.ensures) (c.in-Ok-None.is ∙ ap Ok z))
