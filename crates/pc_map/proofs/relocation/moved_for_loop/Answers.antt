use Rattle.std.proofs.Common.{refl, arith}
use Rattle.pc_map.proofs.Relocating.{for_loop_moved}
use Rattle.pc_map.proofs.relocation.moved_for_loop.Goals as goal

pub returns : goal.returns
returns c =
    let a = c.args in
    λ keep m. for_loop_moved keep _ m a.p a.i _ c.target-t.ensures (omega (arith, c.target-t.ensures)) (omega arith) _ _ _ (omega arith) c.boundary-from.ensures c.boundary.ensures refl
