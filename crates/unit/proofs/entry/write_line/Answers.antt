use native.Mathlib.Omega.{arith}
use Rattle.words.specs.Le.{to_le}
use Rattle.words.specs.laws.Le.{length_to_le}
use Rattle.words.specs.laws.Regions.{put_put}
use Rattle.unit.specs.Entry.{line_bytes}
use Rattle.unit.proofs.entry.write_line.Goals as goal

pub returns : goal.returns
unfolding line_bytes
returns c =
    let a = c.args in
    rw (c.write_u32-2.ensures, c.write_u32.ensures)
    (put_put a.d.now a.at 4 (to_le 4 a.e.place) (length_to_le 4 a.e.place) (omega arith) 4 (to_le 4 a.e.line))
