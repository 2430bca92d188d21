use Rattle.numbering.proofs.Loop.{Numbering}
use Rattle.numbering.proofs.walk.number_code.Given as goal

abbrev pub invariant-loop-p : goal.invariant-loop-p
invariant-loop-p l = Numbering l.leaders l.types l.constants l.initial.memory l.memory l.p
