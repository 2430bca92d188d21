use Rattle.std.proofs.Common.{sym, ◌∙◌}
use Rattle.pc_map.specs.laws.View.{retained_found}
use Rattle.pc_map.proofs.Relocating.{end_moved, end_none}
use Rattle.pc_map.proofs.relocation.relocate_metadata.Goals as goal

pub returns-then-not-is_loop_hint : goal.returns-then-not-is_loop_hint
returns-then-not-is_loop_hint c = λ keep m p. end_none keep _ m c.args.i _ c.is_loop_hint.ensures _ p c.if-not-is_loop_hint.true

pub returns-in-Some : goal.returns-in-Some
returns-in-Some c = λ keep m p. end_moved keep _ m c.args.i _ c.is_loop_hint.ensures c.args.d p _ c.if-not-is_loop_hint.false c.in-Some.ensures

pub returns-in-None : goal.returns-in-None
returns-in-None c =
    λ keep m p. absurd (retained_found c.args.map.boundaries.now c.args.d.end (c.requires (sym c.is_loop_hint.ensures ∙ c.if-not-is_loop_hint.false)) c.in-None.ensures)
