use Rattle.std.proofs.Common.{arith}
use Rattle.pc_map.specs.laws.Retaining.{code_section}
use Rattle.pc_map.proofs.Writing.{section_begin, section_turn, section_end}
use Rattle.pc_map.proofs.retained.write_code.Goals as goal

pub loop-q-init : goal.loop-q-init
loop-q-init c = λ keep metadata l. section_begin code_section l.list l.long

pub write_instruction-requires : goal.write_instruction-requires
write_instruction-requires c =
    let m = c.requires.2 c.loop-q.q c.loop-q-test.true in
    (c.requires.0, c.requires.1, m.0, m.1, omega arith)

pub loop-q-preserved : goal.loop-q-preserved
loop-q-preserved c = λ keep metadata l. section_turn code_section (c.loop-q.invariant keep metadata l) c.loop-q-test.true c.requires.3 (c.write_instruction.ensures keep metadata l.mapped)

pub returns : goal.returns
returns c = λ keep metadata l. section_end code_section (c.loop-q.invariant keep metadata l) (omega arith)
