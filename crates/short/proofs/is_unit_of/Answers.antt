use mathlib.Core.Path.{refl, sym, ◌∙◌}
use native.Mathlib.Omega.{arith}
use lib.Seq.{ext_get_or}
use Rattle.short.specs.Short.{unit_at}
use Rattle.short.specs.laws.Digits.{unit_at_long}
use Rattle.short.proofs.is_unit_of.Goals as goal

pub returns : goal.returns
returns c =
    let a = c.args in
    (λ _. ext_get_or 0 a.unit.now (unit_at a.n a.rank) (c.requires.1 ∙ sym (unit_at_long a.n a.rank)) (λ j h. c.loop-i.invariant j (omega arith)), λ _. refl)
