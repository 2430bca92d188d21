use Rattle.std.proofs.Common.{◌≡◌, refl, ◌∙◌, arith}
use Rattle.desk.specs.laws.Copying.{none_copied, up_more}
use Rattle.desk.proofs.copy.copy_up.Goals as goal

pub loop-k-init : goal.loop-k-init
loop-k-init c = let a = c.args in none_copied a.frame.now a.a a.b 0 refl

pub loop-k-preserved : goal.loop-k-preserved
loop-k-preserved c =
    let a = c.args in
    let l = c.loop-k in
    up_more a.frame.now a.a a.b a.c l.frame l.k _ c.requires.order c.requires.read c.loop-k-test.true l.invariant refl

pub returns : goal.returns
returns c =
    let l = c.loop-k in
    let end : l.k ≡ c.args.c = omega arith in
    record { frame = l.invariant ∙ rw end }
