use Rattle.std.proofs.Common.{refl, arith}
use Rattle.words.specs.Lists.{every}
use Rattle.instruction.specs.Class.{named_class, number_of}
use Rattle.instruction.specs.laws.Class.{class_cast}
use Rattle.instruction.specs.Instruction.{of_word}
use Rattle.flow.specs.laws.BranchLaws.{bit_byte}
use Rattle.flow.specs.laws.Control.{is_control}
use Rattle.flow.proofs.control.control.Goals as goal

pub returns : goal.returns
unfolding every named_class number_of of_word
returns c = rw (← c.class_of.ensures) (bit_byte _ _ (omega arith) (class_cast _ is_control refl c.class_of.result))
