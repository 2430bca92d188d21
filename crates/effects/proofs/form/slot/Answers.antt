use mathlib.Core.Path.{◌∙◌}
use native.Mathlib.Omega.{arith}
use Rattle.instruction.specs.laws.Instruction.{Fields, of_to}
use Rattle.effects.proofs.form.slot.Goals as goal
use Rattle.effects.proofs.form.slot.Goals.{Start}

pub returns : goal.returns
returns c =
    let s = (goal.at.returns c).Start in
    let f : Fields s.args.i = record { op_fits = omega arith; flags_fits = omega arith; a_fits = omega arith; b_fits = omega arith; c_fits = omega arith } in
    c.field.ensures ∙ rw (c.word.ensures, of_to s.args.i f)
