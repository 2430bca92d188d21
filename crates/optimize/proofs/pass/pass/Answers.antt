use mathlib.Core.Path.{◌∙◌}
use native.Mathlib.Omega.{arith}
use lib.ListN.{length}
use Rattle.run.proofs.Given.{pass_preserves}
use Rattle.optimize.specs.laws.Lines.{pass_linable, pass_moves}
use Rattle.optimize.proofs.pass.pass.Goals as goal

pub add_lines-requires : goal.add_lines-requires
add_lines-requires c =
    let a = c.args in
    record { room = pass_linable a.unit.now (λ i. omega (arith, c.type_inv.unit i)) (length a.out.now) (length a.work32.now) (length a.work64.now) _ _ c.answer-r.ensures.answers.0 c.answer-r.auto.out }

pub returns : goal.returns
returns c =
    let a = c.args in
    let moves = pass_moves a.unit.now (λ i. omega (arith, c.type_inv.unit i)) (length a.out.now) (length a.work32.now) (length a.work64.now) in
    let output = c.add_lines.ensures.lined _ a.out.now c.answer-r.ensures.answers moves in record {
      contract = record {
        answer = c.answer-r.ensures.answers.0;
        output = output;
        work32 = c.fill.ensures.after (λ y e. e) ∙ rw c.answer-r.auto.work32;
        work64 = c.fill-2.ensures.after (λ y e. e) ∙ rw c.answer-r.auto.work64;
        runs = rw output (pass_preserves a.unit.now _ _ a.out.now (λ i. omega (arith, c.type_inv.unit i)));
      };
    }
