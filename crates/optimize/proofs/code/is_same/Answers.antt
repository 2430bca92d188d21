use mathlib.Core.Path.{◌∙◌, sym, ap, refl}
use Rattle.instruction.specs.Instruction.{to_word}
use Rattle.optimize.specs.laws.Loading.{loaded_none, loaded_next, loaded_all, same_yes, same_no}
use Rattle.optimize.proofs.code.is_same.Goals as goal

pub loop-p-init : goal.loop-p-init
loop-p-init c = loaded_none _ _

pub returns-then-word : goal.returns-then-word
returns-then-word c = same_no _ c.args.words.now _ c.loop-p-test.true (λ e. c.if-word.true (c.word.ensures ∙ ap to_word c.read.ensures ∙ e))

pub loop-p-preserved : goal.loop-p-preserved
loop-p-preserved c = loaded_next _ _ _ c.loop-p.invariant c.loop-p-test.true (sym (c.word.ensures ∙ ap to_word c.read.ensures) ∙ c.if-word.false)

pub returns : goal.returns
returns c = same_yes _ _ (loaded_all _ _ _ c.loop-p.invariant _ refl c.loop-p-test.false)
