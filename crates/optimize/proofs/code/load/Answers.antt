use mathlib.Core.Path.{◌∙◌, ap}
use native.Mathlib.Omega.{arith}
use Rattle.instruction.specs.Instruction.{to_word}
use Rattle.optimize.specs.laws.Loading.{loaded_none, loaded_set, loaded_all}
use Rattle.optimize.proofs.code.load.Goals as goal

pub loop-p-init : goal.loop-p-init
loop-p-init c = loaded_none _ _

pub loop-p-preserved : goal.loop-p-preserved
loop-p-preserved c = loaded_set _ _ _ c.loop-p.invariant (omega arith) _ (c.word.ensures ∙ ap to_word c.read.ensures)

pub returns : goal.returns
returns c = loaded_all _ _ _ c.loop-p.invariant _ c.loop-p.auto.words (omega arith)
