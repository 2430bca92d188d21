use mathlib.Core.Path.{refl}
use Rattle.instruction.specs.Instruction.{of_word}
use Rattle.instruction.proofs.Instruction.from_word.Goals as goal

pub returns : goal.returns
unfolding of_word
returns c = refl
