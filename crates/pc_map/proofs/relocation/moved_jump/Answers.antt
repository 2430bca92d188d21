use Rattle.std.proofs.Common.{arith}
use Rattle.pc_map.proofs.Relocating.{jump_moved}
use Rattle.pc_map.proofs.relocation.moved_jump.Goals as goal

pub returns : goal.returns
returns c =
    let a = c.args in
    λ keep m. jump_moved keep _ m a.p a.i _ c.target-t.ensures (omega (arith, c.target-t.ensures)) (omega arith) _ _ _ (omega arith) c.boundary-from.ensures c.boundary-to.ensures c.with_imm32.ensures
