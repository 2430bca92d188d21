use Rattle.std.proofs.Common.{arith}
use Rattle.pc_map.specs.laws.Retaining.{metadata_section}
use Rattle.pc_map.proofs.Writing.{section_begin, section_turn, section_end}
use Rattle.pc_map.proofs.retained.write_metadata.Goals as goal

pub loop-q-init : goal.loop-q-init
loop-q-init c = λ keep l. section_begin metadata_section l.list l.long

pub write_entry-requires : goal.write_entry-requires
write_entry-requires c =
    let h = c.loop-q-test.true in
    (c.requires.0, c.requires.1, (c.requires.2 c.loop-q.q h).0, c.requires.3 c.loop-q.q h, omega arith)

pub loop-q-preserved : goal.loop-q-preserved
loop-q-preserved c = λ keep l. section_turn metadata_section (c.loop-q.invariant keep l) c.loop-q-test.true c.requires.4 (c.write_entry.ensures keep l.mapped)

pub returns : goal.returns
returns c = λ keep l. section_end metadata_section (c.loop-q.invariant keep l) (omega arith)
