use mathlib.Core.Path.{◌≡◌}
use Prim.Native.Nat.{◌*◌, ◌-◌}
use native.Mathlib.Omega.{arith}
use Rattle.words.specs.Le.{u32_at}
use Rattle.unit.proofs.section.part.Goals as goal

pub returns : goal.returns
returns c =
    let a = c.args in
    let start = c.word-start in
    let long : c.past-end.result - start.result ≡ a.s.size * u32_at a.unit.now a.s.count = omega arith in
    rw (long, start.ensures.0)
