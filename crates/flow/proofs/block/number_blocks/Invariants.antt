use Rattle.flow.proofs.Numbering.{Buffered}
use Rattle.flow.proofs.block.number_blocks.Given as goal

abbrev pub invariant-loop-p : goal.invariant-loop-p
invariant-loop-p l = Buffered l.initial.work l.n l.work l.p l.count
