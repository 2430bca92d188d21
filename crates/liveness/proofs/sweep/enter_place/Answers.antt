use mathlib.Core.Path.{sym, ◌∙◌}
use lib.ListN.{get_or}
use Rattle.instruction.specs.Instruction.{of_word}
use Rattle.liveness.specs.laws.SetMemory.{live_of}
use Rattle.words.specs.laws.Only.{only_none}
use Rattle.liveness.specs.laws.Sweeping.{entered, not_entered}
use Rattle.liveness.proofs.sweep.enter_place.Goals as goal

pub returns-then-is_last : goal.returns-then-is_last
returns-then-is_last c =
    let s = c.args in
    let i = of_word (get_or s.memory.now s.p 0) in
    let x = c.live_out in
    (entered _ s.sets.width (live_of s.sets s.memory.now) s.blocks.now s.sets.code s.p i _ _ (sym c.is_last.ensures ∙ c.if-is_last.true) x.ensures.0, x.ensures.1)

pub returns-else-is_last : goal.returns-else-is_last
returns-else-is_last c =
    let s = c.args in
    let i = of_word (get_or s.memory.now s.p 0) in
    (not_entered _ s.sets.width (live_of s.sets s.memory.now) s.blocks.now s.sets.code s.p i _ (sym c.is_last.ensures ∙ c.if-is_last.false), only_none _ _)
