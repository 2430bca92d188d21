use native.Mathlib.Omega.{arith}
use Rattle.again.proofs.Writing.{header_begun, header_turn, header_end}
use Rattle.again.proofs.write_header.Goals as goal

pub loop-q-init : goal.loop-q-init
loop-q-init c = header_begun c.args.h _

pub loop-q-preserved : goal.loop-q-preserved
loop-q-preserved c = header_turn c.args.h _ _ _ c.requires.room c.loop-q-test.true c.header_word.ensures.word c.loop-q.invariant c.write_u32.ensures

pub returns : goal.returns
returns c = record { out = header_end c.args.h _ c.loop-q.q (omega arith) c.loop-q.invariant }
