use mathlib.Core.Path.{refl}
use Rattle.removal.specs.laws.Jumping.{no_jump, too_far, near_enough}
use Rattle.removal.proofs.jump.is_idle.Goals as goal
use Rattle.removal.proofs.jump.is_idle.Tie as tie
use Rattle.removal.proofs.jump.is_idle.Lts
use Rattle.removal.proofs.jump.is_idle.Reads

abbrev After-from_word-i : Type 0
After-from_word-i = Lts.After-from_word tie.the-claims Reads.Pre Reads.Post

abbrev After-target-t : Type 0
After-target-t = Lts.After-target tie.the-claims Reads.Pre Reads.Post

abbrev Start : Type 0
Start = Lts.Start tie.the-claims Reads.Pre Reads.Post

pub returns-then-not-kept : goal.returns-then-not-kept
returns-then-not-kept c = rw c.if-not-kept.true refl

-- the instruction is read, at the start of the function
abbrev read : After-target-t → After-from_word-i
read t = t.before.before.before

abbrev start : After-from_word-i → Start
start f = f.before.before.before.before.before

pub returns-then-i-ne-JUMP : goal.returns-then-i-ne-JUMP
returns-then-i-ne-JUMP c = let a = (start c.before.before.before).args in
    no_jump _ a.work.now a.kept a.next a.p _ _ c.from_word-i.ensures c.if-i-ne-JUMP.true

pub returns-then-t-next : goal.returns-then-t-next
returns-then-t-next c = let a = (start (read c.before.before)).args in
    too_far _ a.work.now a.kept a.next a.p _ _ (read c.before.before).from_word-i.ensures _ c.target-t.ensures c.if-t-next.true

pub returns : goal.returns
returns c = let a = (start (read c.before.before.before.before)).args in
    rw c.loop_ends_in.ensures
    (near_enough _ a.work.now a.kept a.next a.p _ _ (read c.before.before.before.before).from_word-i.ensures _ c.target-t.ensures (read c.before.before.before.before).if-not-kept.false c.if-i-ne-JUMP.false c.if-t-next.false)
