use mathlib.Core.Path.{◌≡◌, refl, sym, ◌∙◌}
use native.Mathlib.Numerals.{add-one}
use native.Mathlib.Omega.{arith}
use borrow.Author.Tests.{eq-eqb, ne_eqb}
use Rattle.removal.specs.laws.Next.{from_kept, from_dropped}
use Rattle.removal.proofs.jump.lowest_kept.Goals as goal

pub loop-p-init : goal.loop-p-init
loop-p-init c = λ keep f. refl

pub returns-then-work-p-eq1 : goal.returns-then-work-p-eq1
returns-then-work-p-eq1 c keep f e =
    sym (c.loop-p.invariant keep f ∙ from_kept keep c.loop-p.p (eq-eqb _ 1 (sym (f _ c.loop-p-test.true) ∙ c.if-work-p-eq1.true)))

pub loop-p-preserved : goal.loop-p-preserved
loop-p-preserved c = λ keep f. c.loop-p.invariant keep f ∙ from_dropped keep c.loop-p.p (ne_eqb _ 1 (λ e. c.if-work-p-eq1.false (f _ c.loop-p-test.true ∙ e))) ∙ rw add-one refl

pub returns : goal.returns
returns c keep f e =
    let at : c.loop-p.p ≡ c.args.to = omega arith in
    e ∙ sym (c.loop-p.invariant keep f ∙ rw at refl)
