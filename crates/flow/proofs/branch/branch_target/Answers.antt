use Rattle.std.proofs.Common.{◌≡◌, Bool, true, false, cond, refl, ◌==◌, arith}
use Rattle.instruction.specs.declared.Class.{Class}
use Rattle.instruction.specs.Class.{number_of}
use Rattle.instruction.specs.Instruction.{class}
use Rattle.effects.specs.laws.Branching.{is_loop}
use Rattle.flow.specs.laws.BranchLaws.{byte_below, loop_target}
use Rattle.flow.proofs.branch.branch_target.Goals as goal

itself : (b : Bool) → cond b true false ≡ b
itself true = refl
itself false = refl

-- ForLoop is the class with the number 10
looped : (x : Class) → is_loop x ≡ (number_of x == 10)
looped x = itself (number_of x == 10)

pub overflow_add-from : goal.overflow_add-from
overflow_add-from c = record { fits = omega (arith, byte_below c.is_loop-looped.result) }

pub returns : goal.returns
returns c = λ e. rw (c.distance.ensures, c.is_loop-looped.ensures, c.requires.1, looped (class c.args.i)) (loop_target _ c.args.p c.args.i e)
