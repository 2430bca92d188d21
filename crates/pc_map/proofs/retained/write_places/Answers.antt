use Rattle.std.proofs.Common.{◌+◌, ◌*◌, get_or, arith}
use Rattle.pc_map.specs.laws.Retaining.{place_section}
use Rattle.pc_map.proofs.Writing.{kept_place, section_begin, section_turn, section_end}
use Rattle.pc_map.proofs.retained.write_places.Goals as goal

pub loop-q-init : goal.loop-q-init
loop-q-init c = λ keep words metadata e f. section_begin place_section e f

pub loop-q-preserved : goal.loop-q-preserved
loop-q-preserved c =
    let a = c.args in
    let l = c.loop-q in
    λ keep words metadata e f. section_turn place_section (l.invariant keep words metadata e f) c.loop-q-test.true c.requires (kept_place keep (get_or a.kept.now l.q 0) _ l.out _ (a.a + 4 * l.q) c.write_u32.ensures)

pub returns : goal.returns
returns c = λ keep words metadata e f. section_end place_section (c.loop-q.invariant keep words metadata e f) (omega arith)
