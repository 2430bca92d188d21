use mathlib.Core.Path.{ap, ◌∙◌}
use Rattle.instruction.specs.Instruction.{to_word}
use Rattle.short.proofs.word.Goals as goal

pub returns : goal.returns
returns c = c.word.ensures ∙ ap to_word c.instruction.ensures
