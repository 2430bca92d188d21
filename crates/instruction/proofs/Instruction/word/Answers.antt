use mathlib.Core.Path.{refl}
use Rattle.instruction.specs.Instruction.{to_word}
use Rattle.instruction.proofs.Instruction.word.Goals as goal

pub returns : goal.returns
unfolding to_word
returns c = refl
