use Rattle.lines.specs.laws.Lined.{lined}
use Rattle.lines.proofs.write_lines.Goals as goal

pub returns : goal.returns
returns c =
    let a = c.args in
    λ kept u rise. lined kept a.k a.lines.now a.out.now _ _ _ u rise c.write_entries-count.ensures.1 c.write_u32.ensures
