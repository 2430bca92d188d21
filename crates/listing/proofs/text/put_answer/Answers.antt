use borrow.Author.Rules.{rules}
use Rattle.std.specs.Prelude.{◌≡◌, Ok}
use Rattle.std.proofs.Common.{ap, ◌∙◌}
use Rattle.optimize.specs.declared.Answer.TheVariants.{Unchanged, Rewritten}
use Rattle.listing.specs.Text.{text_of, unchanged_text, refused_text, rewritten_text}
use Rattle.listing.specs.laws.Puts.{puts_then}
use Rattle.listing.proofs.text.put_answer.Goals as goal

pub returns-in-Ok-Unchanged : goal.returns-in-Ok-Unchanged
unfolding text_of unchanged_text
returns-in-Ok-Unchanged c =
    let z : c.in-Ok-Unchanged.field-0 ≡ Unchanged = search rules in
    rw (c.in-Ok-Unchanged.is ∙ ap Ok z) c.put_bytes.ensures

pub returns-in-Err : goal.returns-in-Err
unfolding text_of refused_text
returns-in-Err c = rw c.in-Err.is (puts_then (puts_then c.put_bytes-at-in-Err.ensures c.put_number-at-in-Err.ensures.text) c.put_number.ensures.text)

pub returns-in-Ok-Rewritten : goal.returns-in-Ok-Rewritten
unfolding text_of rewritten_text
returns-in-Ok-Rewritten c =
    let z : c.in-Ok-Rewritten.field-0 ≡ Rewritten c.in-Ok-Rewritten.n = search rules in
    rw (c.in-Ok-Rewritten.is ∙ ap Ok z) (puts_then (puts_then c.put_bytes-at.ensures c.put_number-at.ensures.text) c.put_lines.ensures)
