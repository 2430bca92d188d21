use Rattle.listing.proofs.Laws.{fits_answer, outcome_puts}
use Rattle.listing.proofs.list_pass.Goals as goal

pub put_answer-requires-clause-fits : goal.put_answer-requires-clause-fits
put_answer-requires-clause-fits c =
    let e = c.pass-answer.ensures.contract in
    rw e.answer (fits_answer _ _ _ _ e.output c.pass-answer.auto.out c.requires.out)

pub returns : goal.returns
returns c =
    let e = c.pass-answer.ensures.contract in
    outcome_puts _ _ _ _ e.answer e.output c.put_answer.ensures
