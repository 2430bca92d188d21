use Rattle.std.proofs.Common.{sym, ◌∙◌}
use Rattle.pc_map.proofs.Relocating.{exit_moved, exit_none}
use Rattle.pc_map.proofs.relocation.moved_hint.Goals as goal

pub boundary-requires : goal.boundary-requires
boundary-requires c = rw c.imm32_unsigned-exit.ensures (c.requires (sym c.is_loop_hint.ensures ∙ c.if-is_loop_hint.true))

pub returns-then-is_loop_hint : goal.returns-then-is_loop_hint
returns-then-is_loop_hint c =
    λ keep m. exit_moved keep _ m c.args.i _ c.is_loop_hint.ensures _ _ _ c.if-is_loop_hint.true c.imm32_unsigned-exit.ensures
    (rw c.imm32_unsigned-exit.ensures (c.requires (sym c.is_loop_hint.ensures ∙ c.if-is_loop_hint.true))) c.boundary.ensures c.with_imm32.ensures

pub returns : goal.returns
returns c = λ keep m. exit_none keep _ m c.args.i _ c.is_loop_hint.ensures c.if-is_loop_hint.false
