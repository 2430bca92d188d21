use Rattle.numbering.proofs.Starting.{begins}
use Rattle.numbering.proofs.walk.begin.Goals as goal

pub returns : goal.returns
returns c =
    let a = c.constants_at.ensures in
    let e = c.expressions_at-expressions.ensures in
    rw (a, e)
    (begins c.args.n c.args.locals _ _ _ c.requires.0 c.requires.1 c.requires.2 c.requires.3 (rw a at (c.fill.ensures.after (λ y e. e))) (rw (a, e) at (c.fill-2.ensures.after (λ y e. e))))
