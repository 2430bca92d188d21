use mathlib.Core.Path.{◌∙◌}
use native.Mathlib.Nat.{one-mul}
use native.Mathlib.Omega.{arith}
use Rattle.unit.specs.Layout.{header_of}
use Rattle.unit.proofs.laws.UnitLaws.{unit_laid}
use Rattle.unit.proofs.section.types.Goals as goal

pub part-requires : goal.part-requires
unfolding header_of
part-requires c = let l = unit_laid c.args.unit.now c.requires in record { header = l.header; within = omega (arith, l.within.types) }

pub returns : goal.returns
unfolding header_of
returns c = c.part.ensures ∙ rw one-mul
