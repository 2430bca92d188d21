use lib.ListN.{take}
use Rattle.words.specs.Le.{to_le}
use Rattle.again.specs.Again.{header_words, bytes_of}
use Rattle.again.proofs.Writing.{Begins}
use Rattle.again.proofs.write_header.Given as goal

abbrev pub invariant-loop-q : goal.invariant-loop-q
invariant-loop-q l = Begins l.initial.out l.out (bytes_of (to_le 4) (take l.q (header_words l.h)))
