use native.Mathlib.Omega.{arith}
use Rattle.unit.proofs.Writing.{six_words}
use Rattle.unit.specs.Result.{result_header}
use Rattle.unit.proofs.result.write_header.Goals as goal

pub returns : goal.returns
unfolding result_header
returns c =
    let a = c.args in
    rw (← c.lines_at.ensures, ← c.places_at.ensures, ← c.metadata_at.ensures)
    (six_words a.k 24 _ _ 0 _ a.out.now (omega arith)
    c.write_u32.ensures
    c.write_u32-2.ensures
    c.write_u32-3.ensures
    c.write_u32-4.ensures
    c.write_u32-5.ensures
    c.write_u32-6.ensures)
