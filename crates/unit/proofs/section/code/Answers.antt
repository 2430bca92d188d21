use Rattle.unit.specs.Layout.{header_of}
use Rattle.unit.proofs.laws.UnitLaws.{unit_laid}
use Rattle.unit.proofs.section.code.Goals as goal

pub part-requires : goal.part-requires
unfolding header_of
part-requires c = let l = unit_laid c.args.unit.now c.requires in record { header = l.header; within = l.within.code }
