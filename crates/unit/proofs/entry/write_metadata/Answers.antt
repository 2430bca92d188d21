use native.Mathlib.Omega.{arith}
use Rattle.unit.proofs.Writing.{four_words}
use Rattle.unit.specs.laws.UnitLaws.{metadata_words}
use Rattle.unit.proofs.entry.write_metadata.Goals as goal

pub returns : goal.returns
returns c =
    let a = c.args in
    let m = a.m in
    rw (metadata_words m (omega arith) (omega arith) (omega arith))
    (four_words a.at _ m.first m.second m.end a.d.now (omega arith)
    c.write_u32.ensures
    c.write_u32-2.ensures
    c.write_u32-3.ensures
    c.write_u32-4.ensures)
